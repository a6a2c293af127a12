-- `vector::read_entries` meets its contract: what is not read is cleared.
use native.Mathlib.Omega.{arith}
use mathlib.Core.Path.{◌∙◌}
use Rattle.vector.proofs.Laws.{cleared}
use Rattle.vector.proofs.read_entries.Goals as goal

pub returns : goal.returns
returns c = let a = c.args in
    let n = c.count_of-n.ensures in
    let p = c.requires in (
      c.read_announced-r.ensures.answer,
      c.clear.ensures ∙ cleared a.clients.now _ _ _ _ n (omega (arith, c.read_announced-r.ensures.few, c.read_announced-r.auto.clients, p.0)) c.read_announced-r.auto.clients c.read_announced-r.ensures.clients,
      c.clear-2.ensures ∙ cleared a.clocks.now _ _ _ _ n (omega (arith, c.read_announced-r.ensures.few, c.read_announced-r.auto.clocks, p.1)) c.read_announced-r.auto.clocks c.read_announced-r.ensures.clocks,
    )
