-- `placing::number_of` meets its contract: not one of the rows, a Skip, a block that starts above the clock, or the holder.
use mathlib.Core.Path.{refl, ap, ◌∙◌}
use borrow.Author.Tests.{lt-ltb, le-ltb, eq-eqb, ne_eqb}
use Rattle.placing.specs.Placing.{number_at, capped}
use Rattle.placing.proofs.number_of.Goals as goal

pub returns-then-s-i : goal.returns-then-s-i
unfolding number_at
returns-then-s-i c = let a = c.args in rw (le-ltb a.i a.s.hi c.if-s-i.true) refl

pub returns-then-kind-eq-SKIP : goal.returns-then-kind-eq-SKIP
unfolding number_at
returns-then-kind-eq-SKIP c = let a = c.args in rw (lt-ltb a.i a.s.hi c.if-s-i.false, eq-eqb a.b.kind 2 c.if-kind-eq-SKIP.true) refl

pub returns-then-clock-from : goal.returns-then-clock-from
unfolding number_at
returns-then-clock-from c = let a = c.args in rw (lt-ltb a.i a.s.hi c.if-s-i.false, ne_eqb a.b.kind 2 c.if-kind-eq-SKIP.false, lt-ltb a.clock a.b.clock c.if-clock-from.true) refl

pub returns : goal.returns
unfolding number_at
returns c = let a = c.args in c.cap.ensures ∙ ap capped c.saturating_sub.ensures ∙ rw (lt-ltb a.i a.s.hi c.if-s-i.false, ne_eqb a.b.kind 2 c.if-kind-eq-SKIP.false, le-ltb a.clock a.b.clock c.if-clock-from.false) refl
