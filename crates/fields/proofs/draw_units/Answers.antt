-- `fields::draw_units` meets its contract: both ways out are the number column's next value.
use borrow.Author.Rules.{rules}
use Rattle.cells.specs.Cells.{cell}
use Rattle.fields.proofs.draw_units.Goals as goal

pub begin_numbers-requires : goal.begin_numbers-requires
unfolding cell
begin_numbers-requires c = search rules
