-- `item::length_in` meets its contract: the word as it stands.
use mathlib.Core.Path.{refl}
use Rattle.item.specs.Row.{row_in}
use Rattle.item.proofs.length_in.Goals as goal

pub returns : goal.returns
unfolding row_in
returns c = refl
