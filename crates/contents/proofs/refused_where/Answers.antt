-- `refused_where` meets its contract.
use mathlib.Core.Path.{refl}
use Rattle.contents.specs.Promises.{refused_where}
use Rattle.contents.proofs.refused_where.Goals as goal

pub returns : goal.returns
unfolding refused_where
returns c = refl
