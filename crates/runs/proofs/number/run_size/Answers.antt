-- `number::run_size` meets its contract: the run as a signed number and its count.
use lib.Dec.{ltb}
use lib.ListN.{length}
use mathlib.Core.Path.{sym, ap, ◌∙◌}
use Rattle.runs.proofs.Writing.{number-run}
use Rattle.runs.proofs.number.run_size.Goals as goal

pub returns : goal.returns
returns c = (c.counted_size.ensures.0 (ltb 0 c.args.n) ∙ ap length (sym (number-run c.args.v c.args.n)), c.counted_size.ensures.1)
