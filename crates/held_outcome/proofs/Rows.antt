-- The holder that halving finds among a client's rows is the holder of the id in the client's queue.
use Prim.Native.Nat.{ℕ, zero, suc, ◌+◌, ◌-◌, ◌≤◌, ◌<◌}
use mathlib.Core.Path.{◌≡◌, refl, sym, ap, subst, ◌∙◌}
use mathlib.Core.Bool.{Bool, true, false}
use mathlib.Core.List.{List, []}
use mathlib.Core.Logic.{◌⊎◌, inl, inr}
use native.Mathlib.Omega.{arith}
use lib.Dec.{ltb, leb}
use lib.ListN.{length, get_or, take, length-take}
use borrow.Author.Tests.{ltb-true, ltb-false, lt-ltb, le-ltb, leb-true, leb-false, le-leb, lt-leb}
use Rattle.numbers.specs.Number.{pick}
use Rattle.numbers.specs.Limits.{max_clock, max_blocks}
use Rattle.block.specs.declared.Block.{Block}
use Rattle.block.specs.Row.{no_block}
use Rattle.readings.specs.SoundInner.{Ordered, Chain}
use Rattle.slots.specs.Slots.{Slot, rank, is_named}
use Rattle.slots.proofs.Ranks.{client_at, named-slot, slot-rank, slot-named}
use Rattle.sorting.specs.Rules.{queue, is_skip}
use Rattle.sorting.specs.Sorted.{block_numbers_from}
use Rattle.sorting.proofs.Outcome.{below_or}
use Rattle.outcome.specs.Tie.{slot_of, Slotted}
use Rattle.outcome.proofs.Places.{slot-for, row_block, row_below}
use Rattle.numbered.specs.Numbered.{ended, starts, holder}
use Rattle.numbered.proofs.Holders.{queue-chain, ended-le, ended-low, ended-high, ended-above}
use Rattle.placing.specs.declared.Span.{Span}
use Rattle.placing.specs.Halving.{span, clipped, found}
use Rattle.placing.proofs.Halved.{found-done}
use Rattle.placing.specs.Placing.{span_at, span_of, past_row, capped, number_at, sought, held_by, first_of}
use Rattle.placing.proofs.Borders.{Border, found-borders}

module _ {bs : List Block} {ss : List Slot} (slotted : Slotted bs [] ss) (ordered : Ordered bs) (few : length bs ≤ max_blocks) (rows : List Block)
    (back : take (length bs) rows ≡ bs) where
  long : length bs ≤ length rows
  long = omega (arith, length-take (length bs) rows, ap length back)

  -- ---- a client with blocks

  module _ (c : ℕ) (some : 0 < length (queue bs c)) (k : ℕ) where
    at_slot : (i : ℕ) × (i < length ss) × (client_at ss i ≡ c)
    at_slot = slot-for slotted c some

    abbrev p : ℕ
    p = at_slot.0

    is-rank : rank c ss ≡ p
    is-rank = ap (λ (x : ℕ). rank x ss) (sym at_slot.2) ∙ slot-rank ss p slotted.falling at_slot.1

    is-named : is_named c ss ≡ true
    is-named = ap (λ (x : ℕ). is_named x ss) (sym at_slot.2) ∙ slot-named ss p slotted.falling at_slot.1

    abbrev q : List Block
    q = queue bs c

    abbrev lo : ℕ
    lo = (slot_of ss p).first

    count-is : (slot_of ss p).count ≡ length q
    count-is = slotted.counts p at_slot.1 ∙ ap (λ (x : ℕ). length (queue bs x)) at_slot.2

    row_is : (j : ℕ) → j < length q → get_or rows (lo + j) no_block ≡ get_or q j no_block
    row_is j h = row_block slotted ordered p j at_slot.1 (omega (arith, count-is)) rows back ∙ ap (λ (x : ℕ). get_or (queue bs x) j no_block) at_slot.2

    -- the last row of the client is one of the blocks
    inside : lo + length q ≤ length bs
    inside = go (length q) refl
      where
        go : (n : ℕ) → length q ≡ n → lo + length q ≤ length bs
        go zero e = absurd (omega arith)
        go (suc n) e = omega (arith, row_below slotted ordered p n at_slot.1 (omega (arith, count-is)))

    span-is : span_of ss c ≡ span lo (lo + length q)
    unfolding span_of span_at
    span-is = rw (is-named, is-rank) (rw (le-ltb max_clock (slot_of ss p).first (omega (arith, inside))) (rw (le-ltb max_clock (slot_of ss p).count (omega (arith, inside, count-is))) (ap (λ (n : ℕ). span lo (lo + n)) count-is)))

    abbrev past : ℕ → Bool
    past i = past_row (get_or rows i no_block) k

    past_row_lem : (j : ℕ) → j < length q → past (lo + j) ≡ leb ((get_or q j no_block).clock + (get_or q j no_block).length.0) k
    unfolding past_row
    past_row_lem j h = rw (row_is j h) refl

    chain : Chain q
    chain = queue-chain bs c ordered

    abbrev end_of : ℕ → ℕ
    end_of j = (get_or q j no_block).clock + (get_or q j no_block).length.0

    -- halving ends at the first block that does not end at or below the clock
    module _ (r : ℕ) (b : Border past lo (lo + length q) r) where
      low : (j : ℕ) → r ≡ lo + j → j < ended q k → ⊥
      low j e h =
          let l : j < length q = omega (arith, ended-le k q) in
          let f = subst (λ (x : ℕ). past x ≡ false) e (b.after (omega arith)) in
          omega (arith, leb-false (end_of j) k (sym (past_row_lem j l) ∙ f), ended-low k q j h)

      -- the block before is past, though it is at or behind the first that is not
      behind : (i : ℕ) → i < length q → end_of i ≤ k → (ended q k < i) ⊎ (i ≤ ended q k) → ended q k ≤ i → ⊥
      behind i l g (inl m) h = omega (arith, g, ended-above k q chain i m l)
      behind i l g (inr m) h =
          let e : ended q k ≡ i = omega arith in
          omega (arith, g, subst (λ (x : ℕ). k < end_of x) e (ended-high k q (omega arith)))

      high : (i : ℕ) → r ≡ lo + suc i → ended q k ≤ i → ⊥
      high i e h =
          let l : i < length q = omega (arith, b.upto) in
          behind i l (leb-true (end_of i) k (sym (past_row_lem i l) ∙ b.before (lo + i) (omega arith) (omega arith))) (below_or (ended q k) i) h

      ends_by : (j : ℕ) → r ≡ lo + j → (j < ended q k) ⊎ (ended q k ≤ j) → (ended q k < j) ⊎ (j ≤ ended q k) → r ≡ lo + ended q k
      ends_by j e (inl h) w = absurd (low j e h)
      ends_by zero e (inr h) (inl w) = absurd (omega arith)
      ends_by (suc i) e (inr h) (inl w) = absurd (high i e (omega arith))
      ends_by j e (inr h) (inr w) = omega arith

      ends_at : r ≡ lo + ended q k
      ends_at = ends_by (r - lo) (omega (arith, b.from)) (below_or (r - lo) (ended q k)) (below_or (ended q k) (r - lo))

    clip-is : clipped (span lo (lo + length q)) (length rows) ≡ span lo (lo + length q)
    unfolding clipped
    clip-is = rw (le-ltb (length rows) (lo + length q) (omega (arith, inside, long))) refl

    sought-is : sought rows (span_of ss c) k ≡ lo + ended q k
    unfolding sought
    sought-is = rw (span-is, clip-is) (ends_at (found past lo (lo + length q)) (found-borders past lo (lo + length q) (omega arith)))

    -- a row, if it is one of the client's
    number_is : (b : Block) → b ≡ get_or q (ended q k) no_block → ended q k < length q
        → number_at (span lo (lo + length q)) (lo + ended q k) b k ≡ pick (starts b k) (ended q k) max_clock
    unfolding number_at starts capped
    number_is b e h =
        let m : (lo + ended q k) - lo ≡ ended q k = omega arith in
        rw (lt-ltb (lo + ended q k) (lo + length q) (omega arith), m) (rw (le-ltb max_clock (ended q k) (omega (arith, inside))) (go (is_skip b) (ltb k b.clock) refl))
      where
        go : (x y : Bool) → ltb k b.clock ≡ y → pick x max_clock (pick y max_clock (ended q k)) ≡ pick (pick x false (leb b.clock k)) (ended q k) max_clock
        go true y f = refl
        go false true f = rw (lt-leb b.clock k (ltb-true k b.clock f)) refl
        go false false f = rw (le-leb b.clock k (ltb-false k b.clock f)) refl

    number-out : (b : Block) → length q ≤ ended q k → number_at (span lo (lo + length q)) (lo + ended q k) b k ≡ max_clock
    unfolding number_at
    number-out b h = rw (le-ltb (lo + ended q k) (lo + length q) (omega arith)) refl

    held-some : held_by rows (span_of ss c) k ≡ holder q k
    unfolding held_by holder
    held-some = rw (sought-is, span-is) (go (below_or (ended q k) (length q)))
      where
        n : Block
        n = get_or rows (lo + ended q k) no_block

        same : (x : Bool) (m : ℕ) → m ≡ max_clock → pick x m max_clock ≡ max_clock
        same true m e = e
        same false m e = refl

        go : (ended q k < length q) ⊎ (length q ≤ ended q k)
            → pick (ltb (lo + ended q k) (length rows)) (number_at (span lo (lo + length q)) (lo + ended q k) n k) max_clock
            ≡ pick (ltb (ended q k) (length q)) (pick (starts (get_or q (ended q k) no_block) k) (ended q k) max_clock) max_clock
        go (inl h) =
            rw (lt-ltb (lo + ended q k) (length rows) (omega (arith, inside, long)), lt-ltb (ended q k) (length q) h)
            (number_is n (row_is (ended q k) h) h ∙ ap (λ (b : Block). pick (starts b k) (ended q k) max_clock) (row_is (ended q k) h))
        go (inr h) = same (ltb (lo + ended q k) (length rows)) (number_at (span lo (lo + length q)) (lo + ended q k) n k) (number-out n h)
            ∙ sym (rw (le-ltb (ended q k) (length q) h) refl)

    pub first_some : first_of ss c ≡ get_or (block_numbers_from 0 bs c) 0 0
    unfolding first_of
    first_some =
        ap (λ (i : ℕ). (slot_of ss i).first) is-rank ∙ slotted.firsts p at_slot.1 (omega (arith, count-is))
        ∙ ap (λ (x : ℕ). get_or (block_numbers_from 0 bs x) 0 0) at_slot.2

  -- ---- a client without blocks has no slot, or a slot without rows

  -- where there are no rows, nothing is found
  module _ (s : Span) (k : ℕ) (h : s.hi ≤ s.lo) where
    clip-lo : (clipped s (length rows)).lo ≡ s.lo
    unfolding clipped
    clip-lo = go (ltb (length rows) s.hi)
      where
        go : (x : Bool) → (pick x (span s.lo (length rows)) s).lo ≡ s.lo
        go true = refl
        go false = refl

    clip-hi : (clipped s (length rows)).hi ≤ s.hi
    unfolding clipped
    clip-hi = go (ltb (length rows) s.hi) refl
      where
        go : (x : Bool) → ltb (length rows) s.hi ≡ x → (pick x (span s.lo (length rows)) s).hi ≤ s.hi
        go true e = omega (arith, ltb-true (length rows) s.hi e)
        go false e = omega arith

    none-sought : sought rows s k ≡ s.lo
    unfolding sought
    none-sought = found-done (λ (i : ℕ). past_row (get_or rows i no_block) k) (clipped s (length rows)).lo (clipped s (length rows)).hi
        (omega (arith, clip-lo, clip-hi)) ∙ clip-lo

    none_found : held_by rows s k ≡ max_clock
    unfolding held_by number_at
    none_found = rw (none-sought, le-ltb s.lo s.hi h) (go (ltb s.lo (length rows)))
      where
        go : (x : Bool) → pick x max_clock max_clock ≡ max_clock
        go true = refl
        go false = refl

  span_none : (c : ℕ) → length (queue bs c) ≡ 0 → (span_of ss c).hi ≤ (span_of ss c).lo
  unfolding span_of span_at
  span_none c e = go (is_named c ss) refl
    where
      s : Slot
      s = slot_of ss (rank c ss)

      two : (x y : Bool) → s.count ≡ 0
          → (pick x (span 0 0) (pick y (span 0 0) (span s.first (s.first + s.count)))).hi ≤ (pick x (span 0 0) (pick y (span 0 0) (span s.first (s.first + s.count)))).lo
      two true y z = omega arith
      two false true z = omega arith
      two false false z = omega arith

      go : (x : Bool) → is_named c ss ≡ x
          → (pick x (pick (ltb max_clock s.first) (span 0 0) (pick (ltb max_clock s.count) (span 0 0) (span s.first (s.first + s.count)))) (span 0 0)).hi
          ≤ (pick x (pick (ltb max_clock s.first) (span 0 0) (pick (ltb max_clock s.count) (span 0 0) (span s.first (s.first + s.count)))) (span 0 0)).lo
      go true n =
          let w = named-slot c ss n in
          two (ltb max_clock s.first) (ltb max_clock s.count) (slotted.counts (rank c ss) w.0 ∙ ap (λ (x : ℕ). length (queue bs x)) w.1 ∙ e)
      go false n = omega arith

  held_none : (c k : ℕ) → length (queue bs c) ≡ 0 → held_by rows (span_of ss c) k ≡ max_clock
  held_none c k e = none_found (span_of ss c) k (span_none c e)

  none-held : (c k : ℕ) → length (queue bs c) ≡ 0 → holder (queue bs c) k ≡ max_clock
  unfolding holder
  none-held c k e = rw (le-ltb (ended (queue bs c) k) (length (queue bs c)) (omega arith)) refl

  pub place_is : (c k : ℕ) → held_by rows (span_of ss c) k ≡ holder (queue bs c) k
  place_is c k = go (below_or 0 (length (queue bs c)))
    where
      go : (0 < length (queue bs c)) ⊎ (length (queue bs c) ≤ 0) → held_by rows (span_of ss c) k ≡ holder (queue bs c) k
      go (inl h) = held-some c h k
      go (inr h) = let e : length (queue bs c) ≡ 0 = omega arith in held_none c k e ∙ sym (none-held c k e)
