-- `unread::lower` meets its contract: whether there is a byte, and whether it is lower.
use borrow.Author.Tests.{lt-ltb, le-ltb}
use Rattle.leftover.specs.Leftover as leftover
use Rattle.unread.proofs.lower.Goals as goal

pub returns-then-first-low : goal.returns-then-first-low
unfolding leftover.lower
returns-then-first-low c = rw (lt-ltb _ _ c.if-from-to.true, lt-ltb _ _ c.if-first-low.true)

pub returns-else-first-low : goal.returns-else-first-low
unfolding leftover.lower
returns-else-first-low c = rw (lt-ltb _ _ c.if-from-to.true, le-ltb _ _ c.if-first-low.false)

pub returns-else-from-to : goal.returns-else-from-to
unfolding leftover.lower
returns-else-from-to c = rw (le-ltb _ _ c.if-from-to.false)
