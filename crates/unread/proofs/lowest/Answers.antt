-- `unread::lowest` meets its contract: the rest, and of form 2 the columns.
use borrow.Author.Tests.{eq-eqb, ne_eqb}
use Rattle.leftover.specs.Leftover as leftover
use Rattle.unread.proofs.lowest.Goals as goal

pub returns-then-form-eq1 : goal.returns-then-form-eq1
unfolding leftover.lowest
returns-then-form-eq1 c = rw (eq-eqb _ 1 c.if-form-eq1.true) c.lower-rest.ensures

pub returns : goal.returns
returns c = rw (ne_eqb _ 1 c.if-form-eq1.false, ← c.lower-rest.ensures) c.lowest_of_columns.ensures
