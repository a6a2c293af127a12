-- `anys::skip_bytes` meets its contract: so many bytes are left or not.
use borrow.Author.Tests.{lt-ltb, le-ltb}
use Rattle.anys.specs.Any.{skip_bytes}
use Rattle.anys.proofs.skip_bytes.Goals as goal

pub returns-then-left-n : goal.returns-then-left-n
unfolding skip_bytes
returns-then-left-n c = rw (lt-ltb _ _ c.if-left-n.true)

pub returns : goal.returns
unfolding skip_bytes
returns c = rw (le-ltb _ _ c.if-left-n.false)
