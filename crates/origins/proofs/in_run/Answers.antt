-- `origins::in_run` meets its contract.
use mathlib.Core.Path.{refl}
use Rattle.origins.specs.Origins.{in_run}
use Rattle.origins.proofs.in_run.Goals as goal

pub returns : goal.returns
unfolding in_run
returns c = rw (c.less-bytes.ensures, c.less-which.ensures) refl
