-- How a board stands to a state of sorting, which front of a slot may be taken, and that one step more leaves it so.
use Prim.Native.Nat.{ℕ, suc, ◌+◌, ◌-◌, ◌≤◌, ◌<◌}
use mathlib.Core.Path.{◌≡◌, refl, sym, ap, ◌∙◌}
use mathlib.Core.Bool.{Bool, true, false, ◌&&◌, ◌||◌}
use mathlib.Core.List.{List, [], ◌∷◌, ◌++◌}
use native.Mathlib.Omega.{arith}
use lib.Dec.{T, ltb, eqb}
use lib.ListN.{length, get_or, set, take, length-set, length-append, length-take}
use lib.Seq.{get_or-set_same, get_or-set_other}
use borrow.Author.Tests.{ltb-true, ltb-false, lt-ltb, le-ltb, eqb-true, eqb-false}
use Rattle.numbers.specs.Limits.{max_clock, max_blocks}
use Rattle.block.specs.declared.Block.{Block}
use Rattle.block.specs.Row.{no_block}
use Rattle.vector.specs.Vector.{Entry}
use Rattle.parts.specs.Brim.{brim}
use Rattle.slots.specs.Slots.{Slot}
use Rattle.slots.proofs.Ranks.{client_at}
use Rattle.picker.specs.Picker.{nowhere, one_more, lift, pushed}
use Rattle.sorting.specs.Steps.{State, start, can, step, after}
use Rattle.sorting.specs.Rules.{queue, is_skip, waits, free, system}
use Rattle.sorting.specs.Named.{rule_of}
use Rattle.sorting.specs.Sorted.{steps, block_numbers_from, numbers_by}
use Rattle.sorting.proofs.Outcome.{step-own, can-fits}
use Rattle.sorting.proofs.Quick.{after_more}
use Rattle.sorting.proofs.Numbers.{owner_at, numbers_by-more, numbers_by-length}
use Rattle.sorting.proofs.Demand.{front}
use Rattle.outcome.specs.Tie.{slot_of, Slotted, Sortable, overlaid}
use Rattle.outcome.proofs.Looks.{Shows}
use Rattle.outcome.proofs.Overlay.{overlaid-more}
use Rattle.outcome.proofs.Places.{slot_apart, block-has, row_number, row_below, row_block}
use Rattle.outcome.proofs.Standing.{taken-other, lift-shows}
use Rattle.sweeper.specs.Sweeper.{ready_by, front_row, Board, took, row_at, front_ready, left_at, left_below}
use Rattle.sweeper.proofs.Fronts.{row-over, row_is}
use Rattle.sweeper.proofs.Sweeps.{left-all, is-ready, next-spends}
use Rattle.swept.proofs.Unmet.{ready-is}

-- reaches and counts are those of a state; blocks left and steps made, together, are no more than an update has
pub record Stands (ss : List Slot) (s : State ℕ) (d : Board) : Type 0 where
  pub room : (length ss ≤ length d.reach) × (length ss ≤ length d.taken)
  pub shows : Shows ss d.reach s.known
  pub counts : (i : ℕ) → i < length ss → get_or d.taken i 0 ≡ s.taken (client_at ss i)
  pub few : left_below ss d.taken (length ss) + d.steps ≤ max_blocks

-- what is given: slots of these blocks, and rows that hold them
pub record Given (bs : List Block) (v : List Entry) (ss : List Slot) (rows : List Block) : Type 0 where
  pub slotted : Slotted bs v ss
  pub sortable : Sortable bs
  pub back : take (length bs) rows ≡ bs
  pub short : length rows ≤ nowhere

module _ (rule : ℕ) {bs : List Block} {v : List Entry} {ss : List Slot} {rows : List Block} (given : Given bs v ss rows) where
  longer : length bs ≤ length rows
  longer = omega (arith, length-take (length bs) rows, ap length given.back)

  module _ {s : State ℕ} {d : Board} (st : Stands ss s d) (i : ℕ) (small : i < length ss) where
    abbrev c : ℕ
    c = client_at ss i

    -- ---- the slot's front

    module _ (fits : s.taken c < length (queue bs c)) where
      counted : s.taken c < (slot_of ss i).count
      counted = omega (arith, fits, given.slotted.counts i small)

      pub row-at : row_at ss d i ≡ (slot_of ss i).first + s.taken c
      row-at =
          let h = row_below given.slotted given.sortable.ordered i (s.taken c) small counted in
          let few = given.sortable.few in
          ap (front_row (slot_of ss i)) (st.counts i small)
          ∙ sym (row_is (slot_of ss i) (s.taken c) counted (omega (arith, h, few)) (omega (arith, h, few)))

      pub row_small : row_at ss d i < length rows
      row_small = omega (arith, row-at, longer, row_below given.slotted given.sortable.ordered i (s.taken c) small counted)

      pub row-is-number : row_at ss d i ≡ get_or (block_numbers_from 0 bs c) (s.taken c) 0
      row-is-number = row-at ∙ row_number given.slotted given.sortable.ordered i (s.taken c) small counted

      pub row-is-front : get_or rows (row_at ss d i) no_block ≡ front bs s c
      row-is-front =
          ap (λ (n : ℕ). get_or rows n no_block) row-at
          ∙ row_block given.slotted given.sortable.ordered i (s.taken c) small counted rows given.back

      ready-here : front_ready rule ss rows i d ≡ (is_skip (front bs s c) || free (waits (rule_of rule) s.known c (front bs s c)))
      ready-here =
          is-ready rule ss rows i d row_small _ refl
          ∙ ap (ready_by rule ss d.reach) row-is-front ∙ ready-is rule st.shows (front bs s c)
          ∙ ap (λ (x : ℕ). is_skip (front bs s c) || free (waits (rule_of rule) s.known x (front bs s c))) (owner_at bs c (s.taken c) fits)

    pub row-none : length (queue bs c) ≤ s.taken c → length rows ≤ row_at ss d i
    row-none over =
        let e : row_at ss d i ≡ nowhere =
        ap (front_row (slot_of ss i)) (st.counts i small) ∙ sym (row-over (slot_of ss i) (s.taken c) (omega (arith, over, given.slotted.counts i small))) in
        omega (arith, e, given.short)

    not-here : length rows ≤ row_at ss d i → front_ready rule ss rows i d ≡ false
    unfolding front_ready
    not-here h = rw (le-ltb (row_at ss d i) (length rows) h) refl

    -- it is ready exactly when a step may take it
    pub ready-can : front_ready rule ss rows i d ≡ can (steps (rule_of rule) bs) s c
    unfolding can system
    ready-can = go (ltb (s.taken c) (length (queue bs c))) refl
      where
        go : (x : Bool) → ltb (s.taken c) (length (queue bs c)) ≡ x
            → front_ready rule ss rows i d ≡ (x && (is_skip (front bs s c) || free (waits (rule_of rule) s.known c (front bs s c))))
        go true e = ready-here (ltb-true (s.taken c) (length (queue bs c)) e)
        go false e = not-here (row-none (ltb-false (s.taken c) (length (queue bs c)) e))

    -- as many blocks are left in the slot as of its client
    pub left_is : left_at ss d.taken i ≡ (steps (rule_of rule) bs).size c - s.taken c
    unfolding left_at system
    left_is = λ j. given.slotted.counts i small j - st.counts i small j

    -- ---- one step more

    abbrev next : Board
    next = took i (row_at ss d i) (get_or rows (row_at ss d i) no_block) d

    module _ (t : T (can (steps (rule_of rule) bs) s c)) where
      fits : s.taken c < length (queue bs c)
      unfolding system
      fits = can-fits (steps (rule_of rule) bs) s c t

      -- there is a step left
      pub step_left : d.steps < max_blocks
      unfolding left_at
      step_left =
          omega (arith, st.few, left-all ss d.taken i (length ss) small, counted fits, ap (λ (n : ℕ). (slot_of ss i).count - n) (st.counts i small))

      pub next-stands : Stands ss (step (steps (rule_of rule) bs) s c) next
      unfolding took lift
      next-stands = record {
        room = (simp length-set st.room.0, simp length-set st.room.1);
        shows = rw (row-is-front fits)
            (lift-shows rule bs given.slotted.falling s st.room.0 st.shows i small
            (block-has (λ (a : Block). a.clock + a.length.0 ≤ max_clock) bs c (s.taken c) given.sortable.ends fits));
        counts = λ j h. go j h (eqb j i) refl;
        few = omega (arith, st.few, next-spends rule ss rows given.short i d small st.room.1 (row_small fits));
      }
        where
          go : (j : ℕ) → j < length ss → (x : Bool) → eqb j i ≡ x
              → get_or (set d.taken i (suc (get_or d.taken i 0))) j 0 ≡ (step (steps (rule_of rule) bs) s c).taken (client_at ss j)
          go j h true e =
              let p : j ≡ i = eqb-true j i e in
              rw p (get_or-set_same d.taken i (suc (get_or d.taken i 0)) 0 (omega (arith, st.room)) ∙ ap suc (st.counts i small)
              ∙ sym (step-own (steps (rule_of rule) bs) s c))
          go j h false e =
              let ne = eqb-false j i e in
              get_or-set_other d.taken i j (suc (get_or d.taken i 0)) 0 ne ∙ st.counts j h
              ∙ sym (taken-other rule bs s c (client_at ss j) (slot_apart ss given.slotted.falling j i h small ne))

  -- ---- how far the sweeps have come: some steps have come to what the board shows

  module _ (κ : ℕ → ℕ) (before : List ℕ) where
    pub record Come (cs : List ℕ) (d : Board) : Type 0 where
      pub stands : Stands ss (after (steps (rule_of rule) bs) (start κ) cs) d
      pub count : d.steps ≡ length cs
      pub numbers : d.order ≡ overlaid before (numbers_by (rule_of rule) bs (start κ) cs)

    more-is : (n : ℕ) → n < brim → one_more n ≡ suc n
    unfolding one_more
    more-is n h = rw (lt-ltb n brim h)

    fits-of : (cs : List ℕ) (i : ℕ) → T (can (steps (rule_of rule) bs) (after (steps (rule_of rule) bs) (start κ) cs) (client_at ss i))
        → (after (steps (rule_of rule) bs) (start κ) cs).taken (client_at ss i) < length (queue bs (client_at ss i))
    unfolding system
    fits-of cs i t = can-fits (steps (rule_of rule) bs) (after (steps (rule_of rule) bs) (start κ) cs) (client_at ss i) t

    pub come-more : (cs : List ℕ) (d : Board) (g : Come cs d) (i : ℕ) (small : i < length ss)
        → T (can (steps (rule_of rule) bs) (after (steps (rule_of rule) bs) (start κ) cs) (client_at ss i))
        → Come (cs ++ (client_at ss i ∷ [])) (took i (row_at ss d i) (get_or rows (row_at ss d i) no_block) d)
    unfolding took pushed
    come-more cs d g i small t =
        let c = client_at ss i in
        let ns = numbers_by (rule_of rule) bs (start κ) cs in
        let row = row_at ss d i in
        record {
          stands = rw (after_more (steps (rule_of rule) bs) (start κ) cs c) (next-stands g.stands i small t);
          count = more-is d.steps (omega (arith, step_left g.stands i small t)) ∙ omega (arith, g.count, length-append cs (c ∷ []));
          numbers =
              ap (λ (w : List ℕ). set w d.steps row) g.numbers
              ∙ ap (λ (n : ℕ). set (overlaid before ns) n row) (g.count ∙ sym (numbers_by-length (rule_of rule) bs (start κ) cs))
              ∙ overlaid-more before ns row
              ∙ ap (λ (n : ℕ). overlaid before (ns ++ (n ∷ []))) (row-is-number g.stands i small (fits-of cs i t))
              ∙ sym (ap (overlaid before) (numbers_by-more (rule_of rule) bs (start κ) cs c));
        }
