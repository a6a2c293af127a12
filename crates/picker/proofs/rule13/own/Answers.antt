-- `picker::rule13::own` meets its contract: at clock 0 there is no id before the block.
use mathlib.Core.Path.{refl}
use Rattle.picker.specs.Rule13.{own}
use Rattle.picker.proofs.rule13.own.Goals as goal

pub returns : goal.returns
unfolding own
returns c = rw c.saturating_sub.ensures refl
