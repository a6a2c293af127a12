-- `bulk::next_unit` meets its contract: each return is an arm of `nextNumber`, by what is left of the run.
use borrow.Author.Tests.{lt-ltb, le-ltb}
use Rattle.columns.specs.Number.{next_number}
use Rattle.bulk.proofs.next_unit.Goals as goal

pub returns-then-place-gt0 : goal.returns-then-place-gt0
unfolding next_number
returns-then-place-gt0 c = rw (lt-ltb 0 _ c.if-place-gt0.true) c.draw_number.ensures

pub returns : goal.returns
unfolding next_number
returns c = rw (le-ltb 0 _ c.if-place-gt0.false) c.unit_run.ensures
