-- The numbers of a client's blocks, which stand in a row, and of the blocks that an order takes.
use mathlib.Core.Path.{◌≡◌, refl, sym, ap, subst, ◌∙◌}
use mathlib.Core.Bool.{Bool, true, false}
use mathlib.Core.List.{List, [], ◌∷◌, ◌++◌}
use mathlib.Core.Logic.{◌⊎◌, inl, inr, ◌≢◌, ⊎_elim}
use Prim.Native.Nat.{ℕ, zero, suc, ◌+◌, ◌≤◌, ◌<◌}
use native.Mathlib.Omega.{arith}
use native.Mathlib.Nat.{zero-add}
use lib.Dec.{eqb}
use lib.ListN.{length, get_or}
use borrow.Author.Tests.{eqb-true, eqb-false}
use Rattle.numbers.specs.Number.{pick}
use Rattle.block.specs.declared.Block.{Block}
use Rattle.block.specs.Row.{no_block}
use Rattle.readings.specs.Sound.{All}
use Rattle.readings.specs.SoundInner.{Stays, Ordered}
use Rattle.sorting.specs.Steps.{State, step, after}
use Rattle.sorting.specs.Rules.{queue, Rule}
use Rattle.sorting.specs.Sorted.{steps, block_numbers_from, numbers_by}
use Rattle.sorting.proofs.Outcome.{below_or}

-- one block more is the first of its client's, and changes no other client's
pub one_more : (P : List ℕ → List Block → Type 0) (n : ℕ) (b : Block) (bs : List Block) (c : ℕ)
    → (b.client ≡ c → P (n ∷ block_numbers_from (suc n) bs c) (b ∷ queue bs c)) → (b.client ≢ c → P (block_numbers_from (suc n) bs c) (queue bs c))
    → P (block_numbers_from n (b ∷ bs) c) (queue (b ∷ bs) c)
unfolding queue block_numbers_from
one_more P n b bs c own other = go (eqb b.client c) refl
  where
    go : (x : Bool) → eqb b.client c ≡ x
        → P (pick x (n ∷ block_numbers_from (suc n) bs c) (block_numbers_from (suc n) bs c)) (pick x (b ∷ queue bs c) (queue bs c))
    go true e = own (eqb-true b.client c e)
    go false e = other (eqb-false b.client c e)

pub numbers_from-length : (n : ℕ) (bs : List Block) (c : ℕ) → length (block_numbers_from n bs c) ≡ length (queue bs c)
unfolding queue block_numbers_from
numbers_from-length n [] c = refl
numbers_from-length n (b ∷ bs) c = one_more (λ ns q. length ns ≡ length q) n b bs c
    (λ e. ap suc (numbers_from-length (suc n) bs c)) (λ e. numbers_from-length (suc n) bs c)

pub queue-owner : (bs : List Block) (c : ℕ) → All (λ (b : Block). b.client ≡ c) (queue bs c)
unfolding queue
queue-owner [] c = tt
queue-owner (b ∷ bs) c = one_more (λ ns q. All (λ (d : Block). d.client ≡ c) q) 0 b bs c (λ e. (e, queue-owner bs c)) (λ e. queue-owner bs c)

pub all-at : (P : Block → Type 0) (q : List Block) (k : ℕ) → All P q → k < length q → P (get_or q k no_block)
all-at P [] k all h = absurd (omega arith)
all-at P (b ∷ q) zero all h = all.0
all-at P (b ∷ q) (suc k) all h = all-at P q k all.1 (omega arith)

pub owner_at : (bs : List Block) (c k : ℕ) → k < length (queue bs c) → (get_or (queue bs c) k no_block).client ≡ c
owner_at bs c k h = all-at (λ (b : Block). b.client ≡ c) (queue bs c) k (queue-owner bs c) h

-- ---- the block of that number

-- x is n more than the place of this block
record Place (bs : List Block) (n x : ℕ) (row : Block) : Type 0 where
  place : ℕ
  is : x ≡ n + place
  inside : place < length bs
  found : get_or bs place no_block ≡ row

later : (b : Block) (bs : List Block) (n x : ℕ) (row : Block) → Place bs (suc n) x row → Place (b ∷ bs) n x row
later b bs n x row p = record { place = suc p.place; is = omega (arith, p.is); inside = omega (arith, p.inside); found = p.found }

placed : (n : ℕ) (bs : List Block) (c k : ℕ) → k < length (queue bs c) → Place bs n (get_or (block_numbers_from n bs c) k 0) (get_or (queue bs c) k no_block)
unfolding queue
placed n [] c k h = absurd (omega arith)
placed n (b ∷ bs) c k h = one_more (λ ns q. k < length q → Place (b ∷ bs) n (get_or ns k 0) (get_or q k no_block)) n b bs c
    (λ e. go k (λ j. placed (suc n) bs c j)) (λ e g. later b bs n _ _ (placed (suc n) bs c k g)) h
  where
    go : (k : ℕ) → ((j : ℕ) → j < length (queue bs c) → Place bs (suc n) (get_or (block_numbers_from (suc n) bs c) j 0) (get_or (queue bs c) j no_block))
        → k < suc (length (queue bs c)) → Place (b ∷ bs) n (get_or (n ∷ block_numbers_from (suc n) bs c) k 0) (get_or (b ∷ queue bs c) k no_block)
    go zero rec g = record { place = 0; is = omega arith; inside = omega arith; found = refl }
    go (suc j) rec g = later b bs n _ _ (rec j (omega arith))

pub numbered : (bs : List Block) (c k : ℕ) → k < length (queue bs c)
    → get_or bs (get_or (block_numbers_from 0 bs c) k 0) no_block ≡ get_or (queue bs c) k no_block
numbered bs c k h =
    let p = placed 0 bs c k h in
    ap (λ j. get_or bs j no_block) (p.is ∙ zero-add p.place) ∙ p.found

pub number-below : (bs : List Block) (c k : ℕ) → k < length (queue bs c) → get_or (block_numbers_from 0 bs c) k 0 < length bs
number-below bs c k h =
    let p = placed 0 bs c k h in
    omega (arith, p.is, p.inside)

-- ---- each block has one number, and no other block has it

numbers-rise : (n : ℕ) (bs : List Block) (c k j : ℕ) → k < j → j < length (queue bs c) → get_or (block_numbers_from n bs c) k 0 < get_or (block_numbers_from n bs c) j 0
unfolding queue
numbers-rise n [] c k j h g = absurd (omega arith)
numbers-rise n (b ∷ bs) c k j h g = one_more (λ ns q. j < length q → get_or ns k 0 < get_or ns j 0) n b bs c
    (λ e. go k j h (λ i. let p = placed (suc n) bs c i in λ f. omega (arith, (p f).is)) (numbers-rise (suc n) bs c))
    (λ e. numbers-rise (suc n) bs c k j h) g
  where
    go : (k j : ℕ) → k < j → ((i : ℕ) → i < length (queue bs c) → n < get_or (block_numbers_from (suc n) bs c) i 0)
        → ((k j : ℕ) → k < j → j < length (queue bs c) → get_or (block_numbers_from (suc n) bs c) k 0 < get_or (block_numbers_from (suc n) bs c) j 0)
        → j < suc (length (queue bs c)) → get_or (n ∷ block_numbers_from (suc n) bs c) k 0 < get_or (n ∷ block_numbers_from (suc n) bs c) j 0
    go zero zero h low rec g = absurd (omega arith)
    go zero (suc j) h low rec g = low j (omega arith)
    go (suc k) zero h low rec g = absurd (omega arith)
    go (suc k) (suc j) h low rec g = rec k j (omega arith) (omega arith)

one_place : (bs : List Block) (c k j : ℕ) → k < length (queue bs c) → j < length (queue bs c)
    → get_or (block_numbers_from 0 bs c) k 0 ≡ get_or (block_numbers_from 0 bs c) j 0 → k ≡ j
one_place bs c k j h g e = go (below_or k j) (below_or j k)
  where
    go : (k < j) ⊎ (j ≤ k) → (j < k) ⊎ (k ≤ j) → k ≡ j
    go (inl f) w = absurd (omega (arith, e, numbers-rise 0 bs c k j f g))
    go (inr f) (inl w) = absurd (omega (arith, e, numbers-rise 0 bs c j k w h))
    go (inr f) (inr w) = omega arith

pub number-one : (bs : List Block) (c d k j : ℕ) → k < length (queue bs c) → j < length (queue bs d)
    → get_or (block_numbers_from 0 bs c) k 0 ≡ get_or (block_numbers_from 0 bs d) j 0 → (c ≡ d) × (k ≡ j)
number-one bs c d k j h g e =
    let row : get_or (queue bs c) k no_block ≡ get_or (queue bs d) j no_block = sym (numbered bs c k h) ∙ ap (λ x. get_or bs x no_block) e ∙ numbered bs d j g in
    let p : c ≡ d = sym (owner_at bs c k h) ∙ ap (λ (b : Block). b.client) row ∙ owner_at bs d j g in (
      p,
      one_place bs d k j (subst (λ x. k < length (queue bs x)) p h) g
          (subst (λ x. get_or (block_numbers_from 0 bs x) k 0 ≡ get_or (block_numbers_from 0 bs d) j 0) p e),
    )

-- x is the number of block k
pub record Numbered (ns : List ℕ) (q : List Block) (x : ℕ) : Type 0 where
  pub k : ℕ
  pub inside : k < length q
  pub is : x ≡ get_or ns k 0

numbered-from : (n : ℕ) (bs : List Block) (x c : ℕ) → x < length bs → (get_or bs x no_block).client ≡ c → Numbered (block_numbers_from n bs c) (queue bs c) (n + x)
numbered-from n [] x c h e = absurd (omega arith)
numbered-from n (b ∷ bs) zero c h e = one_more (λ ns q. Numbered ns q (n + 0)) n b bs c
    (λ p. record { k = 0; inside = omega arith; is = omega arith }) (λ ne. absurd (ne e))
numbered-from n (b ∷ bs) (suc x) c h e =
    let w = numbered-from (suc n) bs x c (omega arith) e in
    one_more (λ ns q. Numbered ns q (n + suc x)) n b bs c (λ p. record { k = suc w.k; inside = omega (arith, w.inside); is = omega (arith, w.is) })
    (λ ne. record { k = w.k; inside = w.inside; is = omega (arith, w.is) })

-- the block at x is one of its client's blocks, and x is that one's number
pub each-numbered : (bs : List Block) (x : ℕ) → x < length bs
    → Numbered (block_numbers_from 0 bs (get_or bs x no_block).client) (queue bs (get_or bs x no_block).client) x
each-numbered bs x h =
    let c = (get_or bs x no_block).client in
    subst (Numbered (block_numbers_from 0 bs c) (queue bs c)) (zero-add x) (numbered-from 0 bs x c h refl)

-- ---- blocks of a client that stand together have numbers that follow each other

queue-none : (bs : List Block) (c : ℕ) → All (λ (b : Block). b.client ≢ c) bs → length (queue bs c) ≡ 0
unfolding queue
queue-none [] c all = refl
queue-none (b ∷ bs) c all = one_more (λ ns q. length q ≡ 0) 0 b bs c (λ e. absurd (all.0 e)) (λ e. queue-none bs c all.1)

-- a client's next block comes at once
at_once : (n : ℕ) (b : Block) (bs : List Block) → Stays b bs → 0 < length (queue bs b.client) → get_or (block_numbers_from n bs b.client) 0 0 ≡ n
unfolding queue Stays
at_once n b [] s h = absurd (omega arith)
at_once n b (d ∷ ds) s h = one_more (λ ns q. get_or ns 0 0 ≡ n) n d ds b.client (λ e. refl)
    (λ ne. absurd (⊎_elim ne (λ all. let none = queue-none (d ∷ ds) b.client all in omega (arith, none, h)) s))

numbers-at : (n : ℕ) (bs : List Block) → Ordered bs → (c k : ℕ) → k < length (queue bs c)
    → get_or (block_numbers_from n bs c) k 0 ≡ get_or (block_numbers_from n bs c) 0 0 + k
unfolding queue Ordered
numbers-at n [] o c k h = absurd (omega arith)
numbers-at n (b ∷ bs) o c k h = one_more (λ ns q. k < length q → get_or ns k 0 ≡ get_or ns 0 0 + k) n b bs c
    (λ e g. go k g (λ j. numbers-at (suc n) bs o.2 c j)
    (subst (λ d. 0 < length (queue bs d) → get_or (block_numbers_from (suc n) bs d) 0 0 ≡ suc n) e (at_once (suc n) b bs o.1)))
    (λ e. numbers-at (suc n) bs o.2 c k) h
  where
    go : (k : ℕ) → k < suc (length (queue bs c))
        → ((j : ℕ) → j < length (queue bs c) → get_or (block_numbers_from (suc n) bs c) j 0 ≡ get_or (block_numbers_from (suc n) bs c) 0 0 + j)
        → (0 < length (queue bs c) → get_or (block_numbers_from (suc n) bs c) 0 0 ≡ suc n) → get_or (n ∷ block_numbers_from (suc n) bs c) k 0 ≡ n + k
    go zero g rec next = omega arith
    go (suc j) g rec next = omega (arith, rec j (omega arith), next (omega arith))

pub numbers_from-at : (bs : List Block) → Ordered bs → (c k : ℕ) → k < length (queue bs c)
    → get_or (block_numbers_from 0 bs c) k 0 ≡ get_or (block_numbers_from 0 bs c) 0 0 + k
numbers_from-at = numbers-at 0

-- ---- the numbers of the blocks that an order takes

module _ {A : Type 0} (R : Rule A) (bs : List Block) where
  pub numbers_by-more : (s : State A) (cs : List ℕ) (c : ℕ)
      → numbers_by R bs s (cs ++ (c ∷ [])) ≡ numbers_by R bs s cs ++ (get_or (block_numbers_from 0 bs c) ((after (steps R bs) s cs).taken c) 0 ∷ [])
  unfolding numbers_by after
  numbers_by-more s [] c = refl
  numbers_by-more s (d ∷ cs) c = ap (λ l. get_or (block_numbers_from 0 bs d) (s.taken d) 0 ∷ l) (numbers_by-more (step (steps R bs) s d) cs c)

  pub numbers_by-length : (s : State A) (cs : List ℕ) → length (numbers_by R bs s cs) ≡ length cs
  unfolding numbers_by
  numbers_by-length s [] = refl
  numbers_by-length s (c ∷ cs) = ap suc (numbers_by-length (step (steps R bs) s c) cs)
