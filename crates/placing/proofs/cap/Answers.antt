-- `placing::cap` meets its contract: a number over the highest clock is that clock.
use mathlib.Core.Path.{◌∙◌}
use Rattle.numbers.specs.Limits.{max_clock}
use Rattle.placing.specs.Placing.{capped}
use Rattle.placing.proofs.Places.{min-pick}
use Rattle.placing.proofs.cap.Goals as goal

pub returns : goal.returns
unfolding capped
returns c = c.min.ensures ∙ min-pick c.args.n max_clock
