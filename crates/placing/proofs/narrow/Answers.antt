-- `placing::narrow` meets its contract: the half that is left.
use mathlib.Core.Path.{refl}
use Rattle.placing.specs.Halving.{narrowed}
use Rattle.placing.proofs.narrow.Goals as goal

pub returns-then-past : goal.returns-then-past
unfolding narrowed
returns-then-past c = rw c.if-past.true refl

pub returns-else-past : goal.returns-else-past
unfolding narrowed
returns-else-past c = rw c.if-past.false refl
