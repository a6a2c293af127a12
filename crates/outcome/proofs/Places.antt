-- Clients, slots and rows: a client with blocks has a slot of its own, higher clients come first, and the rows of a client's blocks follow each other.
use Prim.Native.Nat.{ℕ, suc, ◌+◌, ◌≤◌, ◌<◌}
use mathlib.Core.Path.{◌≡◌, refl, sym, ap, subst, ◌∙◌}
use mathlib.Core.Logic.{inl, inr, ◌≢◌}
use mathlib.Core.Bool.{Bool, true, false}
use mathlib.Core.List.{List, [], ◌∷◌, map}
use native.Mathlib.Omega.{arith}
use lib.Dec.{ltb}
use lib.ListN.{length, get_or, take}
use lib.Seq.{get_or-take}
use borrow.Author.Tests.{ltb-true, ltb-false}
use Rattle.block.specs.declared.Block.{Block}
use Rattle.block.specs.Row.{no_block}
use Rattle.vector.specs.Vector.{Entry}
use Rattle.readings.specs.Sound.{All}
use Rattle.readings.specs.SoundInner.{Ordered}
use Rattle.slots.specs.Slots.{Slot, Falling, rank}
use Rattle.slots.proofs.Ranks.{client_at, rank-above, slot-rank}
use Rattle.sorting.specs.Quick.{Listed}
use Rattle.sorting.specs.Rules.{queue}
use Rattle.sorting.specs.Sorted.{block_numbers_from}
use Rattle.sorting.proofs.Clients.{clients-blocks}
use Rattle.sorting.proofs.Numbers.{one_more, all-at, numbers_from-at, number-below, numbered}
use Rattle.outcome.specs.Tie.{slot_of, Slotted}

module _ (ss : List Slot) (falling : Falling ss) (i j : ℕ) where
  pub slot_apart : i < length ss → j < length ss → i ≢ j → client_at ss i ≢ client_at ss j
  slot_apart hi hj ne e = ne (sym (slot-rank ss i falling hi) ∙ ap (λ (c : ℕ). rank c ss) e ∙ slot-rank ss j falling hj)

  pub slot-lower : i ≤ j → j < length ss → client_at ss j ≤ client_at ss i
  slot-lower le h = go (ltb (client_at ss i) (client_at ss j)) refl
    where
      go : (x : Bool) → ltb (client_at ss i) (client_at ss j) ≡ x → client_at ss j ≤ client_at ss i
      go true e =
          let lt = ltb-true (client_at ss i) (client_at ss j) e in
          absurd (omega (arith, rank-above (client_at ss i) ss j falling h lt, slot-rank ss i falling (omega arith)))
      go false e = ltb-false (client_at ss i) (client_at ss j) e

-- a client that is listed has a slot
pub listed-slot : (ss : List Slot) (c : ℕ) → Listed c (map (λ (s : Slot). s.client) ss) → (i : ℕ) × (i < length ss) × (client_at ss i ≡ c)
listed-slot [] c l = absurd l
listed-slot (s ∷ ss) c (inl e) = (0, omega arith, sym e)
listed-slot (s ∷ ss) c (inr l) =
    let p = listed-slot ss c l in
    (suc p.0, omega (arith, p.1), p.2)

queue-all : (P : Block → Type 0) (bs : List Block) (c : ℕ) → All P bs → All P (queue bs c)
unfolding queue
queue-all P [] c all = tt
queue-all P (b ∷ bs) c all = one_more (λ ns q. All P q) 0 b bs c (λ e. (all.0, queue-all P bs c all.1)) (λ e. queue-all P bs c all.1)

-- what all blocks have, a client's have
pub block-has : (P : Block → Type 0) (bs : List Block) (c k : ℕ) → All P bs → k < length (queue bs c) → P (get_or (queue bs c) k no_block)
block-has P bs c k all h = all-at P (queue bs c) k (queue-all P bs c all) h

module _ {bs : List Block} {v : List Entry} {ss : List Slot} (slotted : Slotted bs v ss) where
  pub slot-for : (c : ℕ) → 0 < length (queue bs c) → (i : ℕ) × (i < length ss) × (client_at ss i ≡ c)
  slot-for c h = listed-slot ss c (subst (Listed c) (sym slotted.names) (clients-blocks bs v c h))

  module _ (ordered : Ordered bs) (i k : ℕ) (small : i < length ss) (h : k < (slot_of ss i).count) where
    fits : k < length (queue bs (client_at ss i))
    fits = omega (arith, slotted.counts i small)

    pub row_number : (slot_of ss i).first + k ≡ get_or (block_numbers_from 0 bs (client_at ss i)) k 0
    row_number = omega (arith, slotted.firsts i small (omega arith), numbers_from-at bs ordered (client_at ss i) k fits)

    pub row_below : (slot_of ss i).first + k < length bs
    row_below = omega (arith, row_number, number-below bs (client_at ss i) k fits)

    pub row_block : (rows : List Block) → take (length bs) rows ≡ bs → get_or rows ((slot_of ss i).first + k) no_block ≡ get_or (queue bs (client_at ss i)) k no_block
    row_block rows e =
        sym (get_or-take (length bs) rows ((slot_of ss i).first + k) no_block row_below)
        ∙ ap (λ (l : List Block). get_or l ((slot_of ss i).first + k) no_block) e ∙ ap (λ (n : ℕ). get_or bs n no_block) row_number
        ∙ numbered bs (client_at ss i) k fits
