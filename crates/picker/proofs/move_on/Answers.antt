-- `picker::move_on` meets its contract: the last block of its client, or another follows.
use mathlib.Core.Path.{refl, ◌∙◌}
use Prim.Native.Nat.{◌-◌}
use native.Mathlib.Omega.{arith}
use borrow.Author.Tests.{le-leb, lt-leb, ne_eqb}
use Rattle.picker.specs.Fronts.{fresh}
use Rattle.picker.specs.Picker.{moved}
use Rattle.picker.proofs.move_on.Goals as goal

pub returns-then-f-le1 : goal.returns-then-f-le1
unfolding moved
returns-then-f-le1 c = let a = c.args in
    rw (le-leb a.f.left 1 c.if-f-le1.true, ← c.one_more-next.ensures, c.none.ensures) refl

pub returns : goal.returns
unfolding moved fresh
returns c = let left = c.args.f.left in
    rw (lt-leb left 1 (omega (arith, c.if-f-le1.false)), ← c.one_more-next.ensures)
    (c.begin.ensures ∙ rw (ne_eqb (left - 1) 0 (λ e. omega (arith, c.if-f-le1.false))) refl)
