-- `bits::last_window` meets its contract: the bytes so far, and the number of the bits behind them, are the number of all.
use Prim.Native.Nat.{ℕ, ◌+◌, ◌-◌, ◌*◌, ◌%◌, ◌^◌, ◌≤◌, ◌<◌}
use mathlib.Core.Path.{◌≡◌, refl, ap, subst, ◌∙◌}
use mathlib.Core.List.{List}
use native.Mathlib.Nat.{mul_assoc, mod-eq_of_lt}
use native.Mathlib.Omega.{arith}
use lib.ListN.{get_or, length, take, drop, length-drop, drop_of_length-le}
use lib.Seq.{take_all, get_or-drop}
use lib.Pow.{pow-add}
use Rattle.bits.specs.Bits.{value_of, of_bytes}
use Rattle.bits.proofs.Laws.{number_lt}
use Rattle.bits.proofs.Places.{one_more, at_most, of_none}
use Rattle.bits.proofs.last_window.Goals as goal

-- what the loop goes over: the bytes from `at` to the end
last : (s : List ℕ) (at : ℕ) → take (length s - at) (drop at s) ≡ drop at s
last s at = take_all (length s - at) (drop at s) (omega (arith, length-drop at s))

last-length : (s : List ℕ) (at : ℕ) → length (take (length s - at) (drop at s)) ≡ length s - at
last-length s at = ap length (last s at) ∙ length-drop at s

small : (s : List ℕ) (at i : ℕ) → ((j : ℕ) → get_or s j 0 < 256) → get_or (take (length s - at) (drop at s)) i 0 < 256
small s at i f = rw (last s at, get_or-drop at s i 0) (f (at + i))

-- two bytes more would fit: the bytes end before the seventh
narrow : (t : List ℕ) (w r left : ℕ) → w * 2 ^ left + r ≡ value_of 64 (of_bytes t) → 16 ≤ left → w < 2 ^ 48
narrow t w r left e h =
    let p = left - 16 in
    let sum : left ≡ 16 + p = omega arith in
    let f = subst (λ (n : ℕ). w * 2 ^ n + r ≡ value_of 64 (of_bytes t)) sum e in
    omega (arith, f, number_lt 64 (of_bytes t), at_most (w * 2 ^ 16) p, mul_assoc w (2 ^ 16) (2 ^ p), ap (λ (n : ℕ). w * n) (pow-add 2 16 p))

pub overflow_mul-w : goal.overflow_mul-w
overflow_mul-w c = let a = c.args in
    let size = last-length a.s.now a.at in
    omega (arith, narrow (take (length a.s.now - a.at) (drop a.at a.s.now)) c.loop-b.w _ c.loop-b.left c.loop-b.invariant.0 (omega (arith, size)))

pub overflow_add-w : goal.overflow_add-w
overflow_add-w c = let a = c.args in
    let size = last-length a.s.now a.at in
    omega (arith, narrow (take (length a.s.now - a.at) (drop a.at a.s.now)) c.loop-b.w _ c.loop-b.left c.loop-b.invariant.0 (omega (arith, size)), c.from.ensures, small a.s.now a.at c.loop-b.b-index (λ j. (c.type_inv.s j).fits))

pub loop-b-preserved : goal.loop-b-preserved
loop-b-preserved c = let a = c.args in
    let t = take (length a.s.now - a.at) (drop a.at a.s.now) in
    let back : c.loop-b.left ≡ 8 + (c.loop-b.left - 8) = omega (arith, last-length a.s.now a.at) in
    let e = subst (λ (n : ℕ). c.loop-b.w * 2 ^ n + value_of n (of_bytes (drop c.loop-b.b-index t)) ≡ value_of 64 (of_bytes t)) back c.loop-b.invariant.0 in
    (one_more t c.loop-b.b-index (c.loop-b.b-index + 1) c.loop-b.w c.from.result (c.loop-b.left - 8) _ c.loop-b-test.true c.from.ensures (rw c.from.ensures (small a.s.now a.at c.loop-b.b-index (λ j. (c.type_inv.s j).fits))) refl e, omega arith)

pub returns : goal.returns
returns c = let a = c.args in
    let t = take (length a.s.now - a.at) (drop a.at a.s.now) in
    let none : value_of c.loop-b.left (of_bytes (drop c.loop-b.b-index t)) ≡ 0 =
    ap (λ (u : List ℕ). value_of c.loop-b.left (of_bytes u)) (drop_of_length-le t {i = c.loop-b.b-index} c.loop-b-test.false) ∙ of_none c.loop-b.left in
    let whole : c.loop-b.w * 2 ^ c.loop-b.left ≡ value_of 64 (of_bytes t) = omega (arith, c.loop-b.invariant.0, none) in
    ap (λ (n : ℕ). n % 2 ^ 64) whole ∙ mod-eq_of_lt (number_lt 64 (of_bytes t)) ∙ ap (λ (u : List ℕ). value_of 64 (of_bytes u)) (last a.s.now a.at)
