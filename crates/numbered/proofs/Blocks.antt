-- Which blocks are numbered how: a client's block k stands at clock k, and the blocks are in order as before.
use mathlib.Core.Path.{◌≡◌, refl, sym, ap, ◌∙◌}
use mathlib.Core.Bool.{Bool}
use mathlib.Core.List.{List, [], ◌∷◌, map}
use mathlib.Core.Logic.{inl, inr, ◌≢◌, ⊎_elim}
use Prim.Native.Nat.{ℕ, zero, suc, ◌+◌, ◌-◌, ◌≤◌, ◌<◌}
use native.Mathlib.Omega.{arith}
use lib.ListN.{length, get_or}
use Rattle.block.specs.declared.Id.{Id}
use Rattle.block.specs.declared.Block.{Block}
use Rattle.block.specs.Row.{no_block}
use Rattle.vector.specs.Vector.{Entry}
use Rattle.readings.specs.Sound.{owner, All}
use Rattle.readings.specs.SoundInner.{Follows, Stays, Ordered}
use Rattle.sorting.specs.Rules.{queue}
use Rattle.sorting.specs.Sorted.{block_numbers_from, all_clients}
use Rattle.sorting.proofs.Numbers.{numbers_from-length, numbers_from-at, numbered, number-below, owner_at, each-numbered}
use Rattle.numbered.specs.Numbered.{by_number, numbered_from}

module _ (gone : Id → Bool) (place : Id → ℕ) (first : ℕ → ℕ) where
  abbrev from : ℕ → List Block → List Block
  from i bs = numbered_from gone place first i bs

  -- ---- as many, of the same clients

  pub numbered-length : (i : ℕ) (bs : List Block) → length (from i bs) ≡ length bs
  unfolding numbered_from
  numbered-length i [] = refl
  numbered-length i (b ∷ bs) = ap suc (numbered-length (suc i) bs)

  pub numbered-owners : (i : ℕ) (bs : List Block) → map owner (from i bs) ≡ map owner bs
  unfolding numbered_from by_number
  numbered-owners i [] = refl
  numbered-owners i (b ∷ bs) = ap (λ (cs : List ℕ). b.client ∷ cs) (numbered-owners (suc i) bs)

  pub numbered-clients : (bs : List Block) (v : List Entry) → all_clients (from 0 bs) v ≡ all_clients bs v
  unfolding all_clients
  numbered-clients bs v = rw (numbered-owners 0 bs) refl

  pub numbered-numbers : (i n : ℕ) (bs : List Block) (c : ℕ) → block_numbers_from n (from i bs) c ≡ block_numbers_from n bs c
  unfolding numbered_from block_numbers_from by_number
  numbered-numbers i n [] c = refl
  numbered-numbers i n (b ∷ bs) c = rw (numbered-numbers (suc i) (suc n) bs c) refl

  pub numbered-queue : (bs : List Block) (c : ℕ) → length (queue (from 0 bs) c) ≡ length (queue bs c)
  numbered-queue bs c =
      sym (numbers_from-length 0 (from 0 bs) c) ∙ ap length (numbered-numbers 0 0 bs c) ∙ numbers_from-length 0 bs c

  -- ---- block x of all, and block k of a client's

  numbered-row : (i : ℕ) (bs : List Block) (x : ℕ) → x < length bs
      → get_or (from i bs) x no_block ≡ by_number gone place ((i + x) - first (get_or bs x no_block).client) (get_or bs x no_block)
  unfolding numbered_from
  numbered-row i [] x h = absurd (omega arith)
  numbered-row i (b ∷ bs) zero h = let e : i + 0 ≡ i = omega arith in rw e refl
  numbered-row i (b ∷ bs) (suc x) h = let e : i + suc x ≡ suc i + x = omega arith in rw e (numbered-row (suc i) bs x (omega arith))

  module _ (bs : List Block) (ordered : Ordered bs) (firsts : (c : ℕ) → 0 < length (queue bs c) → first c ≡ get_or (block_numbers_from 0 bs c) 0 0) where
    -- row x is at or behind its client's first
    pub first-le : (x : ℕ) → x < length bs → first (get_or bs x no_block).client ≤ x
    first-le x h =
        let c = (get_or bs x no_block).client in
        let w = each-numbered bs x h in
        omega (arith, w.is, w.inside, firsts c (omega (arith, w.inside)), numbers_from-at bs ordered c w.k w.inside)

    pub numbered-at : (c k : ℕ) → k < length (queue bs c) → get_or (queue (from 0 bs) c) k no_block ≡ by_number gone place k (get_or (queue bs c) k no_block)
    numbered-at c k h =
        let x = get_or (block_numbers_from 0 bs c) k 0 in
        let below = number-below bs c k h in
        let is = numbered bs c k h in
        let e : (0 + x) - first c ≡ k = omega (arith, numbers_from-at bs ordered c k h, firsts c (omega arith)) in
        sym (numbered (from 0 bs) c k (omega (arith, numbered-queue bs c)))
        ∙ ap (λ (ns : List ℕ). get_or (from 0 bs) (get_or ns k 0) no_block) (numbered-numbers 0 0 bs c)
        ∙ numbered-row 0 bs x below
        ∙ rw is (rw (owner_at bs c k h) (ap (λ (n : ℕ). by_number gone place n (get_or (queue bs c) k no_block)) e))

  -- ---- in order, and within the limits

  abbrev Behind : ℕ → List Block → Type 0
  Behind i bs = (x : ℕ) → x < length bs → first (get_or bs x no_block).client ≤ i + x

  stays-others : (c : ℕ) (i : ℕ) (bs : List Block) → All (λ (d : Block). d.client ≢ c) bs → All (λ (d : Block). d.client ≢ c) (from i bs)
  unfolding numbered_from by_number
  stays-others c i [] all = tt
  stays-others c i (b ∷ bs) all = (all.0, stays-others c (suc i) bs all.1)

  numbered-follows : (i : ℕ) (b : Block) (bs : List Block) → first b.client ≤ i → Follows (by_number gone place (i - first b.client) b) (from (suc i) bs)
  unfolding numbered_from by_number Follows
  numbered-follows i b [] low = tt
  numbered-follows i b (d ∷ ds) low = λ e. rw e (omega arith)

  numbered-stays : (i k : ℕ) (b : Block) (bs : List Block) → Stays b bs → Stays (by_number gone place k b) (from i bs)
  unfolding numbered_from by_number Stays
  numbered-stays i k b [] s = tt
  numbered-stays i k b (d ∷ ds) s = ⊎_elim inl (λ all. inr (all.0, stays-others b.client (suc i) ds all.1)) s

  pub numbered-ordered : (i : ℕ) (bs : List Block) → Behind i bs → Ordered bs → Ordered (from i bs)
  unfolding numbered_from Ordered
  numbered-ordered i [] low o = tt
  numbered-ordered i (b ∷ bs) low o = (
    numbered-follows i b bs (omega (arith, low 0 (omega arith))),
    numbered-stays (suc i) (i - first b.client) b bs o.1,
    numbered-ordered (suc i) bs (λ x h. omega (arith, low (suc x) (omega arith))) o.2,
  )

  -- each stands at a clock no higher than its place among all
  pub numbered-all : (P : Block → Type 0) (most : ℕ) → ((k : ℕ) (b : Block) → k < most → P (by_number gone place k b)) → (i : ℕ) (bs : List Block)
      → i + length bs ≤ most → All P (from i bs)
  unfolding numbered_from
  numbered-all P most each i [] h = tt
  numbered-all P most each i (b ∷ bs) h = (each (i - first b.client) b (omega arith), numbered-all P most each (suc i) bs (omega arith))
