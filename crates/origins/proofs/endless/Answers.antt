-- `origins::endless` meets its contract.
use mathlib.Core.Path.{refl}
use Rattle.origins.specs.Origins.{endless}
use Rattle.origins.proofs.endless.Goals as goal

pub returns : goal.returns
unfolding endless
returns c = rw c.less-bytes.ensures refl
