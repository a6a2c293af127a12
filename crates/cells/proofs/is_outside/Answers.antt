-- `cells::is_outside` meets its contract: each return is an arm of `outside`.
use Rattle.columns.specs.Difference.{outside}
use Rattle.cells.proofs.is_outside.Goals as goal

pub returns-then-minus : goal.returns-then-minus
unfolding outside
returns-then-minus c = rw c.if-minus.true

pub returns : goal.returns
unfolding outside
returns c = rw c.if-minus.false
