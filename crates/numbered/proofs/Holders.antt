-- One block of a client's queue holds an id, if any does: so one of the first n does exactly if its number is below n.
use mathlib.Core.Path.{◌≡◌, refl, sym, ap, subst, ◌∙◌}
use mathlib.Core.Bool.{Bool, true, false, ◌||◌, ◌&&◌}
use mathlib.Core.List.{List, [], ◌∷◌}
use mathlib.Core.Logic.{◌≢◌, ⊎_elim}
use Prim.Native.Nat.{ℕ, zero, suc, ◌+◌, ◌≤◌, ◌<◌}
use native.Mathlib.Omega.{arith}
use lib.Dec.{ltb, leb, eqb}
use lib.ListN.{length, get_or}
use borrow.Author.Tests.{ltb-true, ltb-false, lt-ltb, le-ltb, leb-true, leb-false, lt-leb, eq-eqb, ne_eqb, eqb-true, eqb-false}
use Rattle.numbers.specs.Number.{pick}
use Rattle.numbers.specs.Limits.{max_clock, max_blocks}
use Rattle.block.specs.declared.Id.{Id}
use Rattle.block.specs.declared.Block.{Block}
use Rattle.block.specs.Row.{no_block}
use Rattle.readings.specs.Sound.{All}
use Rattle.readings.specs.SoundInner.{Follows, Stays, Ordered, Adjoins, Chain}
use Rattle.sorting.specs.Rules.{queue, is_skip}
use Rattle.sorting.specs.Held.{in_range}
use Rattle.sorting.proofs.Numbers.{one_more}
use Rattle.sorting.proofs.Held.{holds_at, told}
use Rattle.numbered.specs.Numbered.{ended, starts, holder}

-- ---- a client's blocks follow each other

none_of : (bs : List Block) (c : ℕ) → All (λ (b : Block). b.client ≢ c) bs → queue bs c ≡ []
unfolding queue
none_of [] c all = refl
none_of (b ∷ bs) c all = one_more (λ ns q. q ≡ []) 0 b bs c (λ e. absurd (all.0 e)) (λ e. none_of bs c all.1)

adjoins : (b : Block) (bs : List Block) → Follows b bs → Stays b bs → Adjoins b (queue bs b.client)
unfolding queue Follows Stays Adjoins
adjoins b [] f s = tt
adjoins b (d ∷ ds) f s = ⊎_elim
    (λ e. one_more (λ ns q. Adjoins b q) 0 d ds b.client (λ p. (p, f p)) (λ ne. absurd (ne e)))
    (λ all. subst (Adjoins b) (sym (none_of (d ∷ ds) b.client all)) tt) s

pub queue-chain : (bs : List Block) (c : ℕ) → Ordered bs → Chain (queue bs c)
unfolding queue Ordered Chain
queue-chain [] c o = tt
queue-chain (b ∷ bs) c o = one_more (λ ns q. Chain q) 0 b bs c
    (λ e. (subst (λ (x : ℕ). Adjoins b (queue bs x)) e (adjoins b bs o.0 o.1), queue-chain bs c o.2)) (λ e. queue-chain bs c o.2)

abbrev at : List Block → ℕ → Block
at q j = get_or q j no_block

abbrev end_of : Block → ℕ
end_of b = b.clock + b.length.0

-- a later block starts at or above the end of an earlier one
above : (b : Block) (q : List Block) → Adjoins b q → Chain q → (j : ℕ) → j < length q → end_of b ≤ (at q j).clock
unfolding Chain Adjoins
above b [] a c j h = absurd (omega arith)
above b (d ∷ q) a c zero h = omega (arith, a.1)
above b (d ∷ q) a c (suc j) h = omega (arith, a.1, above d q c.0 c.1 j (omega arith))

-- ---- where the ended blocks end

module _ (k : ℕ) where
  pub ended-le : (q : List Block) → ended q k ≤ length q
  unfolding ended
  ended-le [] = omega arith
  ended-le (b ∷ q) = go (leb (end_of b) k) (ended-le q)
    where
      go : (x : Bool) → ended q k ≤ length q → pick x (suc (ended q k)) 0 ≤ suc (length q)
      go true h = omega arith
      go false h = omega arith

  -- an ended block, and the one after them
  pub ended-low : (q : List Block) (j : ℕ) → j < ended q k → end_of (at q j) ≤ k
  unfolding ended
  ended-low [] j h = absurd (omega arith)
  ended-low (b ∷ q) j h = go j (leb (end_of b) k) refl h (ended-low q)
    where
      go : (j : ℕ) (x : Bool) → leb (end_of b) k ≡ x → j < pick x (suc (ended q k)) 0 → ((i : ℕ) → i < ended q k → end_of (at q i) ≤ k) → end_of (at (b ∷ q) j) ≤ k
      go zero true e h rec = leb-true (end_of b) k e
      go (suc j) true e h rec = rec j (omega arith)
      go j false e h rec = absurd (omega arith)

  pub ended-high : (q : List Block) → ended q k < length q → k < end_of (at q (ended q k))
  unfolding ended
  ended-high [] h = absurd (omega arith)
  ended-high (b ∷ q) h = go (leb (end_of b) k) refl h (ended-high q)
    where
      go : (x : Bool) → leb (end_of b) k ≡ x → pick x (suc (ended q k)) 0 < suc (length q) → (ended q k < length q → k < end_of (at q (ended q k)))
          → k < end_of (at (b ∷ q) (pick x (suc (ended q k)) 0))
      go true e h rec = rec (omega arith)
      go false e h rec = leb-false (end_of b) k e

  -- blocks after that one start above the clock
  pub ended-above : (q : List Block) → Chain q → (j : ℕ) → ended q k < j → j < length q → k < (at q j).clock
  unfolding ended Chain
  ended-above [] c j h g = absurd (omega arith)
  ended-above (b ∷ q) c j h g = go j (leb (end_of b) k) refl h g (ended-above q c.1)
    where
      go : (j : ℕ) (x : Bool) → leb (end_of b) k ≡ x → pick x (suc (ended q k)) 0 < j → j < suc (length q)
          → ((i : ℕ) → ended q k < i → i < length q → k < (at q i).clock) → k < (at (b ∷ q) j).clock
      go zero x e h g rec = absurd (omega arith)
      go (suc i) true e h g rec = rec i (omega arith) (omega arith)
      go (suc i) false e h g rec = omega (arith, leb-false (end_of b) k e, above b q c.0 c.1 i (omega arith))

-- ---- the one block that holds an id

module _ (q : List Block) (chain : Chain q) (few : length q ≤ max_blocks) (d : Id) where
  abbrev k : ℕ
  k = d.clock

  -- what a block of the queue holds
  holds_by : (j : ℕ) → holds_at q j d ≡ pick (is_skip (at q j)) false (leb (at q j).clock k && ltb k (end_of (at q j)))
  unfolding holds_at in_range
  holds_by j = rw (eq-eqb d.client d.client refl) refl

  pick_same : (x : Bool) → pick x false false ≡ false
  pick_same true = refl
  pick_same false = refl

  and-false : (x : Bool) → (x && false) ≡ false
  and-false true = refl
  and-false false = refl

  and-true : (x : Bool) → (x && true) ≡ x
  and-true true = refl
  and-true false = refl

  holder-cases : (P : ℕ → Type 0) → (ended q k < length q → starts (at q (ended q k)) k ≡ true → P (ended q k))
      → ((ended q k < length q → starts (at q (ended q k)) k ≡ false) → P max_clock) → P (holder q k)
  unfolding holder
  holder-cases P one none = go (ltb (ended q k) (length q)) refl (starts (at q (ended q k)) k) refl
    where
      go : (x : Bool) → ltb (ended q k) (length q) ≡ x → (y : Bool) → starts (at q (ended q k)) k ≡ y → P (pick x (pick y (ended q k) max_clock) max_clock)
      go true e true f = one (ltb-true (ended q k) (length q) e) f
      go true e false f = none (λ h. f)
      go false e y f = none (λ h. absurd (omega (arith, ltb-false (ended q k) (length q) e)))

  module _ (j : ℕ) (h : j < length q) where
    abbrev says : Bool
    says = pick (is_skip (at q j)) false (leb (at q j).clock k && ltb k (end_of (at q j)))

    other : j ≢ ended q k → eqb j (holder q k) ≡ false
    other ne = holder-cases (λ n. eqb j n ≡ false) (λ g s. ne_eqb j (ended q k) ne) (λ s. ne_eqb j max_clock (λ e. omega arith))

    says-starts : j ≡ ended q k → says ≡ starts (at q (ended q k)) k
    unfolding starts
    says-starts p =
        rw (← p) (rw (lt-ltb k (end_of (at q j)) (subst (λ (i : ℕ). k < end_of (at q i)) (sym p) (ended-high k q (omega arith)))) (ap (pick (is_skip (at q j)) false) (and-true (leb (at q j).clock k))))

    here : j ≡ ended q k → says ≡ eqb j (holder q k)
    here p = says-starts p ∙ holder-cases (λ n. starts (at q (ended q k)) k ≡ eqb j n) (λ g s. s ∙ sym (eq-eqb j (ended q k) p))
        (λ s. s (omega arith) ∙ sym (ne_eqb j max_clock (λ e. omega arith)))

    holds-cases : (x : Bool) → ltb j (ended q k) ≡ x → (y : Bool) → eqb j (ended q k) ≡ y → says ≡ eqb j (holder q k)
    holds-cases true e y f =
        rw (le-ltb k (end_of (at q j)) (ended-low k q j (ltb-true j (ended q k) e)))
        (ap (pick (is_skip (at q j)) false) (and-false (leb (at q j).clock k)) ∙ pick_same (is_skip (at q j))
        ∙ sym (other (λ p. omega (arith, ltb-true j (ended q k) e))))
    holds-cases false e true f = here (eqb-true j (ended q k) f)
    holds-cases false e false f =
        let ne = eqb-false j (ended q k) f in
        rw (lt-leb (at q j).clock k (ended-above k q chain j (omega (arith, ltb-false j (ended q k) e, ne)) h))
        (pick_same (is_skip (at q j)) ∙ sym (other ne))

    holds-one : holds_at q j d ≡ eqb j (holder q k)
    holds-one = holds_by j ∙ holds-cases (ltb j (ended q k)) refl (eqb j (ended q k)) refl

  below_next : (n m : ℕ) → (ltb m n || eqb n m) ≡ ltb m (suc n)
  below_next n m = go (ltb m n) refl (eqb n m) refl
    where
      go : (x : Bool) → ltb m n ≡ x → (y : Bool) → eqb n m ≡ y → (x || y) ≡ ltb m (suc n)
      go true e y f = sym (lt-ltb m (suc n) (omega (arith, ltb-true m n e)))
      go false e true f = sym (lt-ltb m (suc n) (omega (arith, eqb-true n m f)))
      go false e false f = let ne = eqb-false n m f in sym (le-ltb m (suc n) (omega (arith, ltb-false m n e, ne)))

  pub told_below : (n : ℕ) → n ≤ length q → told q n d ≡ ltb (holder q d.clock) n
  unfolding told
  told_below zero h = sym (le-ltb (holder q k) 0 (omega arith))
  told_below (suc n) h = rw (told_below n (omega arith), holds-one n (omega arith)) (below_next n (holder q k))

  pub holder-low : holder q d.clock ≤ max_clock
  holder-low = holder-cases (λ n. n ≤ max_clock) (λ g s. omega arith) (λ s. omega arith)
