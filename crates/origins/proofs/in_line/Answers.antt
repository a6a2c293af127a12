-- `origins::in_line` meets its contract.
use mathlib.Core.Path.{refl}
use Rattle.origins.specs.Origins.{line_stand}
use Rattle.origins.proofs.in_line.Goals as goal

pub returns : goal.returns
unfolding line_stand
returns c = rw c.less-bytes.ensures refl
