-- `item::row_in` meets its contract: field by field.
use mathlib.Core.Path.{refl}
use native.Mathlib.Omega.{arith}
use Rattle.item.specs.Row.{id_in, row_in}
use Rattle.item.proofs.row_in.Goals as goal

pub id_in-left-requires : goal.id_in-left-requires
unfolding id_in
id_in-left-requires c = (omega (arith, c.requires.size), c.requires.left)

pub id_in-right-requires : goal.id_in-right-requires
unfolding id_in
id_in-right-requires c = (omega (arith, c.requires.size), c.requires.right)

pub id_in-parent-requires : goal.id_in-parent-requires
unfolding id_in
id_in-parent-requires c = (omega (arith, c.requires.size), c.requires.parent)

pub returns : goal.returns
unfolding row_in
returns c = rw (
  c.id_in-left.ensures,
  c.id_in-right.ensures,
  c.id_in-parent.ensures,
  c.part_in-name.ensures,
  c.part_in-key.ensures,
  c.part_in-part.ensures,
  c.part_in-mark.ensures,
) refl

pub bounds-r-23 : goal.bounds-r-23
bounds-r-23 c = omega (arith, c.requires.size)

pub overflow_cast-result-3 : goal.overflow_cast-result-3
overflow_cast-result-3 c = omega (arith, c.requires.type)
