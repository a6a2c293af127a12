-- Sums over slots: less where one of them is less; and all queues together have no more blocks than there are.
use Prim.Native.Nat.{ℕ, zero, suc, ◌+◌, ◌*◌, ◌≤◌, ◌<◌}
use mathlib.Core.Path.{◌≡◌, refl, sym, ap, ◌∙◌}
use mathlib.Core.Logic.{◌≢◌}
use mathlib.Core.Bool.{Bool, true, false}
use mathlib.Core.List.{List, [], ◌∷◌}
use native.Mathlib.Nat.{mul-zero, mul-add}
use native.Mathlib.Omega.{arith}
use lib.Dec.{ltb}
use lib.ListN.{length}
use borrow.Author.Tests.{ltb-true, ltb-false}
use Rattle.block.specs.declared.Block.{Block}
use Rattle.sorting.specs.Rules.{queue}
use Rattle.sorting.proofs.Numbers.{one_more}

-- over the first n
unfoldable pub sum : (ℕ → ℕ) → ℕ → ℕ
sum f zero = 0
sum f (suc n) = sum f n + f n

pub sum-at : (f : ℕ → ℕ) (n i : ℕ) → i < n → f i ≤ sum f n
unfolding sum
sum-at f zero i h = absurd (omega arith)
sum-at f (suc n) i h = go (ltb i n) refl (sum-at f n i)
  where
    go : (x : Bool) → ltb i n ≡ x → (i < n → f i ≤ sum f n) → f i ≤ sum f n + f n
    go true e rec = omega (arith, rec (ltb-true i n e))
    go false e rec = let p : i ≡ n = omega (arith, ltb-false i n e) in rw p (omega arith)

pub sum-le : (f g : ℕ → ℕ) (n : ℕ) → ((i : ℕ) → i < n → f i ≤ g i) → sum f n ≤ sum g n
unfolding sum
sum-le f g zero h = omega arith
sum-le f g (suc n) h = omega (arith, sum-le f g n (λ i l. h i (omega arith)), h n (omega arith))

pub sum_less : (f g : ℕ → ℕ) (n i : ℕ) → i < n → f i < g i → ((j : ℕ) → j < n → f j ≤ g j) → sum f n < sum g n
unfolding sum
sum_less f g zero i h l le = absurd (omega arith)
sum_less f g (suc n) i h l le = go (ltb i n) refl (λ k. sum_less f g n i k l (λ j k. le j (omega arith)))
  where
    go : (x : Bool) → ltb i n ≡ x → (i < n → sum f n < sum g n) → sum f n + f n < sum g n + g n
    go true e rec = omega (arith, rec (ltb-true i n e), le n (omega arith))
    go false e rec =
        let p : i ≡ n = omega (arith, ltb-false i n e) in
        omega (arith, rw p at l, sum-le f g n (λ j k. le j (omega arith)))

pub sum-times : (m : ℕ) (f : ℕ → ℕ) (n : ℕ) → sum (λ i. m * f i) n ≡ m * sum f n
unfolding sum
sum-times m f zero = sym (mul-zero m)
sum-times m f (suc n) = ap (λ (x : ℕ). x + m * f n) (sum-times m f n) ∙ sym (mul-add m (sum f n) (f n))

-- ---- queues of clients that are not the same

abbrev pub sizes : List Block → (ℕ → ℕ) → ℕ → ℕ
sizes bs c i = length (queue bs (c i))

module _ (b : Block) (bs : List Block) (c : ℕ → ℕ) where
  other : (i : ℕ) → b.client ≢ c i → sizes (b ∷ bs) c i ≤ sizes bs c i
  other i ne = one_more (λ ns q. length q ≤ sizes bs c i) 0 b bs (c i) (λ e. absurd (ne e)) (λ e. omega arith)

  -- a block more is in one of the queues at most
  one_block : (n : ℕ) → ((i j : ℕ) → i < j → j < n → c i ≢ c j) → sum (sizes (b ∷ bs) c) n ≤ suc (sum (sizes bs c) n)
  unfolding sum
  one_block zero apart = omega arith
  one_block (suc n) apart =
      one_more (λ ns q. sum (sizes (b ∷ bs) c) n + length q ≤ suc (sum (sizes bs c) n + sizes bs c n)) 0 b bs (c n)
      (λ e. omega (arith, sum-le (sizes (b ∷ bs) c) (sizes bs c) n (λ i h. other i (λ p. apart i n h (omega arith) (omega arith)))))
      (λ e. omega (arith, one_block n (λ i j l h. apart i j l (omega arith))))

sum-zero : (n : ℕ) → sum (λ i. 0) n ≡ 0
unfolding sum
sum-zero zero = refl
sum-zero (suc n) = omega (arith, sum-zero n)

-- no more blocks are in the queues than there are
pub queues-fit : (bs : List Block) (c : ℕ → ℕ) (n : ℕ) → ((i j : ℕ) → i < j → j < n → c i ≢ c j) → sum (sizes bs c) n ≤ length bs
unfolding queue
queues-fit [] c n apart = omega (arith, sum-zero n)
queues-fit (b ∷ bs) c n apart = omega (arith, one_block b bs c n apart, queues-fit bs c n apart)
