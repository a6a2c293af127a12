-- `bulk::next_byte` meets its contract: each return is an arm of `nextByte`, by what is left of the run.
use borrow.Author.Tests.{lt-ltb, le-ltb}
use Rattle.columns.specs.Byte.{next_byte}
use Rattle.bulk.proofs.next_byte.Goals as goal

pub returns-then-place : goal.returns-then-place
unfolding next_byte
returns-then-place c = rw c.if-place.true

pub returns-then-count-gt0 : goal.returns-then-count-gt0
unfolding next_byte
returns-then-count-gt0 c = rw (c.if-place.false, lt-ltb 0 _ c.if-count-gt0.true)

pub returns : goal.returns
unfolding next_byte
returns c = rw (c.if-place.false, le-ltb 0 _ c.if-count-gt0.false) c.byte_run.ensures
