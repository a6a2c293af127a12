-- `picker::point` meets its contract: no look is left, no front is due, or one is.
use mathlib.Core.Path.{refl}
use native.Mathlib.Omega.{arith}
use borrow.Author.Tests.{lt-ltb, le-ltb}
use Rattle.picker.specs.Picker.{pointed}
use Rattle.picker.proofs.point.Goals as goal

pub returns-then-left-eq0 : goal.returns-then-left-eq0
unfolding pointed
returns-then-left-eq0 c = rw (le-ltb 0 c.args.left (omega (arith, c.if-left-eq0.true))) refl

pub returns-then-n-slot : goal.returns-then-n-slot
unfolding pointed
returns-then-n-slot c = let a = c.args in
    rw (lt-ltb 0 a.left (omega (arith, c.if-left-eq0.false)), ← c.first_due-slot.ensures.0, le-ltb c.first_due-slot.result a.n c.if-n-slot.true) refl

pub returns : goal.returns
unfolding pointed
returns c = let a = c.args in
    rw (
      lt-ltb 0 a.left (omega (arith, c.if-left-eq0.false)),
      ← c.first_due-slot.ensures.0,
      lt-ltb c.first_due-slot.result a.n (omega (arith, c.if-n-slot.false)),
      ← c.front_at-f.ensures,
    )
    refl
