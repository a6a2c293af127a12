-- `bits::put` meets its contract: the word that is stored is the number of the bits begun and of those put.
use Prim.Native.Nat.{ℕ, ◌+◌, ◌-◌, ◌*◌, ◌/◌, ◌%◌, ◌^◌, ◌≤◌, ◌<◌}
use mathlib.Core.Path.{◌≡◌, ap, ap₂, subst, ◌∙◌}
use mathlib.Core.List.{List}
use native.Mathlib.Nat.{mod-lt}
use native.Mathlib.Omega.{arith}
use borrow.Author.Rules.{rules}
use Rattle.bits.specs.Places.{highest}
use Rattle.bits.proofs.Places.{head-is, tail-is, word_lt, puts}
use Rattle.bits.proofs.put.Goals as goal

-- the word: what `begun` gave, and v behind it
word : (s : List ℕ) (o k v a : ℕ) → k ≤ 57 → a ≡ highest s (o / 8) (o % 8) → a < 2 ^ (o % 8)
    → (a * 2 ^ 56 % 2 ^ 64) * 2 ^ (8 - o % 8) % 2 ^ 64 + v * 2 ^ (64 - k) % 2 ^ 64 / 2 ^ (o % 8)
    ≡ highest s (o / 8) (o % 8) * 2 ^ (k + (64 - (o % 8 + k))) + v % 2 ^ k * 2 ^ (64 - (o % 8 + k))
word s o k v a h e l =
    let r8 : o % 8 < 8 = mod-lt o {m = 8} (omega arith) in
    ap₂ (λ (i j : ℕ). i + j) (head-is (o % 8) k r8 h a l ∙ ap (λ (i : ℕ). i * 2 ^ (k + (64 - (o % 8 + k)))) e) (tail-is (o % 8) k r8 h v)

pub overflow_add-w : goal.overflow_add-w
overflow_add-w c = let a = c.before.args in
    let h : a.k ≤ 57 = search rules in
    let small = word_lt (a.o % 8) a.k (mod-lt a.o {m = 8} (omega arith)) h (highest a.out.now (a.o / 8) (a.o % 8)) a.v
    (subst (λ (n : ℕ). n < 2 ^ (a.o % 8)) c.begun-high.ensures.0 c.begun-high.ensures.1) in
    omega (arith, small, word a.out.now a.o a.k a.v c.begun-high.result h c.begun-high.ensures.0 c.begun-high.ensures.1)

pub returns : goal.returns
returns c = let a = c.before.args in
    let h : a.k ≤ 57 = search rules in
    rw c.store.ensures (puts a.out.now a.o a.k a.v h (search rules) _ (word a.out.now a.o a.k a.v c.begun-high.result h c.begun-high.ensures.0 c.begun-high.ensures.1))
