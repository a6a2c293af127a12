-- `difference::run_size` meets its contract: the run as a signed number and its count.
use lib.Dec.{ltb}
use lib.ListN.{length}
use mathlib.Core.Path.{sym, ap, ◌∙◌}
use Rattle.runs.specs.Difference.{zero_key}
use Rattle.runs.proofs.Writing.{difference-run}
use Rattle.runs.proofs.difference.run_size.Goals as goal

pub returns : goal.returns
returns c = let a = c.args in
    let e = c.counted_size.ensures.0 (ltb a.k zero_key) in
    (e ∙ rw c.magnitude_of-x.ensures (ap length (sym (difference-run a.k a.n))), c.counted_size.ensures.1)
