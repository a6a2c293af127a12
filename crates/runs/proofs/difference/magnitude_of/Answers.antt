-- `difference::magnitude_of` meets its contract: in one half of the keys one product is 0, in the other half the other.
use Prim.Native.Nat.{ℕ, ◌+◌, ◌-◌, ◌*◌, ◌/◌, ◌%◌, ◌≤◌, ◌<◌}
use mathlib.Core.Path.{◌≡◌, refl, ap, ◌∙◌}
use mathlib.Core.Bool.{Bool, true, false}
use lib.Dec.{ltb}
use native.Mathlib.Omega.{arith}
use native.Mathlib.Nat.{mul-le-mul_right}
use borrow.Author.Tests.{ltb-true, ltb-false}
use borrow.Author.Rules.{rules}
use Rattle.runs.specs.Difference.{zero_key, magnitude}
use Rattle.runs.proofs.difference.magnitude_of.Goals as goal

at_most : (h x : ℕ) → h ≤ 1 → h * x ≤ x
at_most h x l = omega (arith, mul-le-mul_right x l)

halves-by : (k one : ℕ) (x : Bool) → ltb k zero_key ≡ x → k < 4294967296 → one ≤ 1
    → k / 2147483648 * (2 * (k % 2147483648) + one) + (1 - k / 2147483648) * (4294967296 - (2 * (k % 2147483648) + one)) ≡ magnitude k one
unfolding magnitude
halves-by k one true e h l =
    let less = ltb-true k zero_key e in
    let q : k / 2147483648 ≡ 0 = omega arith in
    let r : k % 2147483648 ≡ k = omega arith in
    rw (q, r, e) (omega arith)
halves-by k one false e h l =
    let more = ltb-false k zero_key e in
    let q : k / 2147483648 ≡ 1 = omega arith in
    let r : k % 2147483648 ≡ k - 2147483648 = omega arith in
    rw (q, r, e) (omega arith)

halves : (k one : ℕ) → k < 4294967296 → one ≤ 1
    → k / 2147483648 * (2 * (k % 2147483648) + one) + (1 - k / 2147483648) * (4294967296 - (2 * (k % 2147483648) + one)) ≡ magnitude k one
halves k one = halves-by k one (ltb k zero_key) refl

pub overflow_mul-result : goal.overflow_mul-result
overflow_mul-result c = let k = c.args.k in
    let p : k / 2147483648 ≤ 1 = search rules in
    let q = at_most (k / 2147483648) (2 * (k % 2147483648) + c.odd_of-one.result) p in
    search rules

pub overflow_mul-result-2 : goal.overflow_mul-result-2
overflow_mul-result-2 c = let k = c.args.k in
    let p : 1 - k / 2147483648 ≤ 1 = omega arith in
    let q = at_most (1 - k / 2147483648) (4294967296 - (2 * (k % 2147483648) + c.odd_of-one.result)) p in
    search rules

pub overflow_add-result : goal.overflow_add-result
overflow_add-result c = let k = c.args.k in
    let p : k / 2147483648 ≤ 1 = search rules in
    let q = at_most (k / 2147483648) (2 * (k % 2147483648) + c.odd_of-one.result) p in
    let p2 : 1 - k / 2147483648 ≤ 1 = omega arith in
    let q2 = at_most (1 - k / 2147483648) (4294967296 - (2 * (k % 2147483648) + c.odd_of-one.result)) p2 in
    search rules

pub returns : goal.returns
returns c = let k = c.args.k in
    halves k c.odd_of-one.result (search rules) c.odd_of-one.ensures.1 ∙ ap (magnitude k) c.odd_of-one.ensures.0
