-- `cells::key_read` meets its contract: each return is an arm of `keyRead`, and a half of what is at most 2^31 fits.
use Rattle.columns.specs.Difference.{key_read}
use borrow.Author.Rules.{rules}
use Rattle.cells.proofs.key_read.Goals as goal

pub returns-then-minus : goal.returns-then-minus
unfolding key_read
returns-then-minus c = rw c.if-minus.true (search rules)

pub returns : goal.returns
unfolding key_read
returns c = rw c.if-minus.false (search rules)
