-- `bits::begun` meets its contract, by its two ways out.
use Prim.Native.Nat.{ℕ, ◌+◌, ◌-◌, ◌/◌, ◌^◌, ◌<◌}
use mathlib.Core.Path.{◌≡◌, ap, subst}
use native.Mathlib.Omega.{arith}
use lib.Pow.{pow_pos, shr_lt}
use borrow.Author.Tests.{eq-eqb, ne_eqb}
use borrow.Author.Rules.{rules}
use Rattle.bits.specs.Places.{highest}
use Rattle.bits.proofs.begun.Goals as goal

pub returns-then-r-eq0 : goal.returns-then-r-eq0
unfolding highest
returns-then-r-eq0 c = (rw (eq-eqb _ 0 c.if-r-eq0.true), pow_pos _)

pub returns : goal.returns
unfolding highest
returns c = let r = c.args.r in
    let small : r < 8 = search rules in
    let eight : 8 ≡ r + (8 - r) = omega arith in (
      rw (ne_eqb r 0 c.if-r-eq0.false) (ap (λ (n : ℕ). n / 2 ^ (8 - r)) c.from.ensures),
      shr_lt r (8 - r) (subst (λ (n : ℕ). c.from.result < 2 ^ n) eight (rw c.from.ensures (c.type_inv.s c.args.at).fits)),
    )
