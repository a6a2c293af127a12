-- `bulk::next_difference` meets its contract: each return is an arm of `nextDifference`, by what is left of the run.
use borrow.Author.Tests.{lt-ltb, le-ltb}
use Rattle.columns.specs.Difference.{next_difference}
use Rattle.bulk.proofs.next_difference.Goals as goal

pub returns-then-place-gt0 : goal.returns-then-place-gt0
unfolding next_difference
returns-then-place-gt0 c = rw (lt-ltb 0 _ c.if-place-gt0.true) c.draw_difference.ensures

pub returns : goal.returns
unfolding next_difference
returns c = rw (le-ltb 0 _ c.if-place-gt0.false) c.difference_run.ensures
