-- `awaited::is_left` meets its contract: none is left, or its row is one of so many.
use mathlib.Core.Path.{refl}
use borrow.Author.Tests.{eq-eqb, ne_eqb}
use Rattle.awaited.specs.Awaited.{is_left}
use Rattle.awaited.proofs.is_left.Goals as goal

pub returns-then-f-ne0 : goal.returns-then-f-ne0
unfolding is_left
returns-then-f-ne0 c = let a = c.args in rw (ne_eqb a.f.left 0 c.if-f-ne0.true) refl

pub returns-else-f-ne0 : goal.returns-else-f-ne0
unfolding is_left
returns-else-f-ne0 c = let a = c.args in rw (eq-eqb a.f.left 0 c.if-f-ne0.false) refl
