-- `placing::is_begun` meets its contract: range i, if it is one of them, of the client and from no higher clock.
use mathlib.Core.Path.{refl}
use borrow.Author.Tests.{lt-ltb, le-ltb, eq-eqb, ne_eqb}
use Rattle.placing.specs.Placing.{begins}
use Rattle.ranges.specs.TableInner.{row}
use Rattle.placing.proofs.is_begun.Goals as goal

pub returns-then-n-i : goal.returns-then-n-i
unfolding begins
returns-then-n-i c = let a = c.args in rw (le-ltb a.i a.n c.if-n-i.true) refl

pub returns-then-words-i : goal.returns-then-words-i
unfolding begins row
returns-then-words-i c = let a = c.args in rw (lt-ltb a.i a.n c.if-n-i.false, eq-eqb _ _ c.if-words-i.true, c.from.ensures) refl

pub returns-else-words-i : goal.returns-else-words-i
unfolding begins row
returns-else-words-i c = let a = c.args in rw (lt-ltb a.i a.n c.if-n-i.false, ne_eqb _ _ c.if-words-i.false) refl
