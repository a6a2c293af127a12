-- `picker::raise` meets its contract: nothing is lifted, or a reach, to the end if that is above it.
use mathlib.Core.Path.{refl, sym}
use lib.ListN.{get_or}
use lib.Seq.{set_out, set-get_or}
use borrow.Author.Tests.{eq-eqb, ne_eqb, lt-ltb, le-ltb}
use Rattle.numbers.specs.Limits.{max_clock}
use Rattle.picker.specs.Picker.{lift, lifted}
use Rattle.picker.proofs.raise.Goals as goal

pub returns-then-kind-eq-SKIP : goal.returns-then-kind-eq-SKIP
unfolding lift lifted
returns-then-kind-eq-SKIP c = let a = c.args in
    sym (rw (eq-eqb a.b.kind 2 c.if-kind-eq-SKIP.true) (set-get_or a.reach.now a.p 0))

pub returns-then-length-gt-MAX_CLOCK : goal.returns-then-length-gt-MAX_CLOCK
unfolding lift lifted
returns-then-length-gt-MAX_CLOCK c = let a = c.args in
    sym (rw (ne_eqb a.b.kind 2 c.if-kind-eq-SKIP.false, lt-ltb max_clock a.b.length.0 c.if-length-gt-MAX_CLOCK.true) (set-get_or a.reach.now a.p 0))

pub returns-then-reach-p : goal.returns-then-reach-p
unfolding lift
returns-then-reach-p c = let a = c.args in
    sym (set_out a.reach.now a.p (lifted (get_or a.reach.now a.p 0) a.b) c.if-reach-p.true)

pub returns : goal.returns
unfolding lift lifted
returns c = let a = c.args in
    rw (ne_eqb a.b.kind 2 c.if-kind-eq-SKIP.false, le-ltb max_clock a.b.length.0 c.if-length-gt-MAX_CLOCK.false, c.max.ensures, c.from.ensures) refl
