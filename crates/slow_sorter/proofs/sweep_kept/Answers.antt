-- `slow_sorter::sweep_kept` meets its contract: the slots of local words are those of the rows and the entries.
use Rattle.std.proofs.Common.{take}
use Rattle.kept.specs.Plan.{entries_of}
use Rattle.slow_sorter.proofs.Exits.{kept-asks, exit-kept}
use Rattle.slow_sorter.proofs.sweep_kept.Goals as goal

pub sweep_slots-requires : goal.sweep_slots-requires
sweep_slots-requires c =
    let a = c.args in
    rw (c.open_slots-n.ensures.0, c.open_slots-n.ensures.1)
    (kept-asks a.rule a.rows.now a.blocks (take a.m a.clients.now) (entries_of a.m a.clients.now a.clocks.now) a.order.now a.counts.now a.reaches.now a.pending.now)

pub returns : goal.returns
returns c =
    let a = c.args in
    let e = c.sweep_slots.ensures in
    rw (e.0, e.1, e.2, e.3, e.4, c.open_slots-n.ensures.0, c.open_slots-n.ensures.1)
    (exit-kept a.rule a.rows.now a.blocks (take a.m a.clients.now) (entries_of a.m a.clients.now a.clocks.now) a.order.now a.counts.now a.reaches.now a.pending.now)
