-- `explainer::clock_line` meets its contract: field by field.
use mathlib.Core.Path.{refl}
use Rattle.origins.specs.Origins.{line_stand}
use Rattle.explainer.specs.Explanation.{clock_line}
use Rattle.explainer.proofs.clock_line.Goals as goal

pub returns : goal.returns
unfolding clock_line line_stand
returns c = rw c.less.ensures refl
