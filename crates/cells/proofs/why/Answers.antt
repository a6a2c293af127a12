-- `cells::why` meets its contract: the two words that say so.
use Rattle.cells.specs.Cells.{why_in}
use mathlib.Core.Path.{refl}
use Rattle.cells.proofs.why.Goals as goal

pub returns : goal.returns
unfolding why_in
returns c = refl
