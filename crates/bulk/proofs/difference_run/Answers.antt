-- `bulk::difference_run` meets its contract: each return is an arm of `begun` or of `counted`, by what was read and tested on the way.
use Prim.Native.Nat.{ℕ, ◌≤◌}
use mathlib.Core.Path.{◌≡◌, sym, ap, ◌∙◌}
use mathlib.Core.Bool.{Bool, true, false}
use native.Mathlib.Omega.{arith}
use borrow.Author.Tests.{lt-ltb, le-ltb, ltb-false, leb-false, eq-eqb, ne_eqb}
use Rattle.numbers.specs.Number.{read_unsigned, read_signed}
use Rattle.numbers.specs.NumberInner.{why_signed, why_read}
use Rattle.columns.specs.declared.difference.Answer.TheVariants.{Bad}
use Rattle.columns.specs.Difference.{outside, key_read, begun, counted}
use Rattle.bulk.proofs.difference_run.Goals as goal
use Rattle.bulk.proofs.difference_run.Goals.{Else-x-eq0}

inside : (m : Bool) (x : ℕ) → outside m x ≡ false → x ≤ 2147483648
unfolding outside
inside true x h = ltb-false 2147483648 x h
inside false x h = omega (arith, leb-false 2147483648 x h)

-- where the run's count is read: what came before, once for the three returns after it
begun-odd : (c : Else-x-eq0)
    → let m = c in let a = m.args in
    begun a.column.now a.at a.last (read_signed a.column.now a.at)
    ≡ counted a.at a.last (key_read m.in-Value.minus m.in-Value.x) m.in-Value.e (read_unsigned a.column.now m.in-Value.e)
unfolding begun
begun-odd c =
    let o = c in
    let m = c in
    rw (← m.read_signed-r.ensures, m.in-Value.is, ← o.is_outside.ensures, c.if-is_outside.false, ne_eqb _ _ c.if-x-eq0.false)

pub returns-in_default : goal.returns-in_default
unfolding begun
returns-in_default c = let told = c.in_default.is in
    rw (← c.read_signed-r.ensures, told) (ap Bad (c.why_signed.ensures ∙ ap why_signed told))

pub returns-then-is_outside : goal.returns-then-is_outside
unfolding begun
returns-then-is_outside c = let m = c in
    rw (← m.read_signed-r.ensures, m.in-Value.is, ← c.is_outside.ensures, c.if-is_outside.true)

pub key_read-key-requires : goal.key_read-key-requires
key_read-key-requires c = let m = c in
    inside m.in-Value.minus m.in-Value.x (sym c.is_outside.ensures ∙ c.if-is_outside.false)

pub returns-then-x-eq0 : goal.returns-then-x-eq0
unfolding begun
returns-then-x-eq0 c = let o = c in
    let m = c in
    rw (
      ← m.read_signed-r.ensures,
      m.in-Value.is,
      ← o.is_outside.ensures,
      c.if-is_outside.false,
      eq-eqb _ _ c.if-x-eq0.true,
      ← c.key_read-key.ensures,
    ) c.draw_difference.ensures

pub returns-in_default-k : goal.returns-in_default-k
unfolding counted
returns-in_default-k c = let told = c.in_default-k.is in
    let k = c in
    rw (begun-odd (goal.at.returns-in_default-k c).Else-x-eq0, ← k.read_unsigned-k.ensures, told) (ap Bad (c.why_read.ensures ∙ ap why_read told))

pub returns-then-c-gt-MAX_COUNT : goal.returns-then-c-gt-MAX_COUNT
unfolding counted
returns-then-c-gt-MAX_COUNT c = let k = c in
    rw (begun-odd (goal.at.returns-then-c-gt-MAX_COUNT c).Else-x-eq0, ← k.read_unsigned-k.ensures, c.in-Number.is, lt-ltb _ _ c.if-c-gt-MAX_COUNT.true)

pub returns : goal.returns
unfolding counted
returns c = let k = c in
    rw (
      begun-odd (goal.at.returns c).Else-x-eq0,
      ← k.read_unsigned-k.ensures,
      c.in-Number.is,
      le-ltb _ _ c.if-c-gt-MAX_COUNT.false,
      ← k.key_read-key.ensures,
    ) c.draw_difference-2.ensures
