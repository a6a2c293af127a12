-- `item::id_in` meets its contract: the words as they stand.
use native.Mathlib.Omega.{arith}
use mathlib.Core.Path.{refl}
use Rattle.item.specs.Row.{id_in}
use Rattle.item.proofs.id_in.Goals as goal

pub overflow_cast-clock : goal.overflow_cast-clock
unfolding id_in
overflow_cast-clock c = omega arith

pub returns : goal.returns
unfolding id_in
returns c = refl
