-- `telling::part_in` meets its contract: the words as they stand.
use mathlib.Core.Path.{refl}
use Rattle.cells.specs.Cells.{part_in}
use Rattle.telling.proofs.part_in.Goals as goal

pub returns : goal.returns
unfolding part_in
returns c = refl
