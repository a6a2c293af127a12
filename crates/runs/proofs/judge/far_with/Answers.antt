-- `judge::far_with` meets its contract, column by column.
use borrow.Author.Tests.{le-leb, lt-leb, lt-ltb, le-ltb}
use Rattle.runs.specs.Runs.{coding, near_key}
use Rattle.runs.proofs.judge.far_with.Goals as goal

pub returns-then-k-lt1073741824 : goal.returns-then-k-lt1073741824
unfolding coding near_key
returns-then-k-lt1073741824 c = rw (c.in-Difference.is, lt-leb 1073741824 _ c.if-k-lt1073741824.true)

pub returns-then-k-ge3221225472 : goal.returns-then-k-ge3221225472
unfolding coding near_key
returns-then-k-ge3221225472 c = rw (c.in-Difference.is, le-leb 1073741824 _ c.if-k-lt1073741824.false, le-ltb _ 3221225472 c.if-k-ge3221225472.true)

pub returns-in-Number : goal.returns-in-Number
unfolding coding
returns-in-Number c = rw c.in-Number.is

pub returns-else-k-ge3221225472 : goal.returns-else-k-ge3221225472
unfolding coding near_key
returns-else-k-ge3221225472 c = rw (c.in-Difference.is, le-leb 1073741824 _ c.if-k-lt1073741824.false, lt-ltb _ 3221225472 c.if-k-ge3221225472.false)

pub returns-in-Byte : goal.returns-in-Byte
unfolding coding
returns-in-Byte c = rw c.in-Byte.is
