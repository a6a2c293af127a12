-- `item::is_dropped` meets its contract: a length of 0, of an item's kind.
use mathlib.Core.Path.{refl}
use borrow.Author.Tests.{eq-eqb, ne_eqb}
use Rattle.grammar.specs.Blocks.{dropped}
use Rattle.item.specs.Row.{row_in}
use Rattle.item.proofs.is_dropped.Goals as goal

pub returns-then-r-ne0 : goal.returns-then-r-ne0
unfolding dropped row_in
returns-then-r-ne0 c = rw (ne_eqb _ 0 c.if-r-ne0.true) refl

pub returns : goal.returns
unfolding dropped row_in
returns c = rw (eq-eqb _ 0 c.if-r-ne0.false) c.is_item.ensures
