-- What is reported of the clients that have blocks left is the first id that is not held.
use Prim.Native.Nat.{ℕ, suc, ◌+◌, ◌≤◌, ◌<◌}
use mathlib.Core.Path.{◌≡◌, refl, sym, ap, subst, ◌∙◌}
use mathlib.Core.Bool.{Bool, true, false, ◌||◌}
use mathlib.Core.List.{List, [], ◌∷◌, ◌++◌}
use mathlib.Core.Option.{none, some}
use native.Mathlib.Omega.{arith}
use lib.Dec.{ltb, eqb}
use lib.ListN.{length, get_or, take, length-take}
use borrow.Author.Tests.{ltb-true, ltb-false, lt-ltb, le-ltb, eq-eqb, ne_eqb}
use Rattle.numbers.specs.Number.{pick}
use Rattle.block.specs.declared.Id.{Id}
use Rattle.block.specs.declared.Block.{Block}
use Rattle.block.specs.Row.{no_id, no_block, left_id, right_id, parent_id}
use Rattle.ranges.specs.RangesInner.{Normal}
use Rattle.ranges.specs.TableInner.{rows_from}
use Rattle.slots.specs.Slots.{Slot}
use Rattle.slots.proofs.Clients.{clients_of}
use Rattle.picker.specs.declared.fronts.Front.{Front}
use Rattle.picker.specs.declared.stages.Dependency.{Dependency}
use Rattle.picker.specs.Waits.{dep}
use Rattle.picker.specs.Rule28.{other}
use Rattle.picker.specs.Stages.{stage_at}
use Rattle.picker.specs.Fronts.{front_at}
use Rattle.picker.specs.Picker.{is_met, holds, nowhere}
use Rattle.sorting.specs.Steps.{State, Stuck}
use Rattle.sorting.specs.Rules.{queue, is_skip, also, deps, others, unmet, waits, system, report, below}
use Rattle.sorting.specs.Rule28.{asks28}
use Rattle.sorting.specs.Rule28Inner.{rule28}
use Rattle.sorting.specs.Named.{asks_of}
use Rattle.sorting.specs.Sorted.{steps, outcome, waiting, pending_in, outcome_of}
use Rattle.sorting.specs.Held.{rule_held, owners, pending_held}
use Rattle.sorting.proofs.Outcome.{can-intro}
use Rattle.sorting.proofs.Rules.{report-waits}
use Rattle.sorting.proofs.Numbers.{owner_at}
use Rattle.sorting.proofs.Clients.{clients-blocks}
use Rattle.sorting.proofs.Demand.{left-waits}
use Rattle.sorting.proofs.Held.{held-mono, held-sorts}
use Rattle.outcome.specs.Tie.{slot_of, Ended}
use Rattle.outcome.proofs.Looks.{Shows, met-below}
use Rattle.outcome.proofs.Places.{row_block, row_below}
use Rattle.awaited.specs.Awaited.{is_left, first_unmet, waiting_words, waiting_of, waiting_from}
use Rattle.numbered.specs.Numbered.{asked, placed, by_number}
use Rattle.numbered.proofs.Blocks.{numbered-at}
use Rattle.held_sorter.specs.HeldSorter.{numbered_in, pending_by}
use Rattle.held_outcome.proofs.Placed.{stage-left, stage-right, stage-parent}
use Rattle.held_outcome.proofs.Came.{Fit, ss, held, is-slotted, is-gone, placed_at, ns, firsts, sortable, slotted-so, agree, d, came, end, met}
use Rattle.placing.specs.Placing.{first_of}

-- ---- a stage that is not met

-- whether a dependency holds its block, where so much is met
unfoldable stops : (Id → Bool) → ℕ → Bool → Id → Bool
stops f c there e = pick there (pick (eqb e.client c) false (pick (f e) false true)) false

unmet-one : (f : Id → Bool) (c : ℕ) (there : Bool) (e : Id) (ds : List Id)
    → unmet f (others c (also there e ds)) ≡ pick (stops f c there e) (some e) (unmet f (others c ds))
unfolding stops others unmet
unmet-one f c false e ds = refl
unmet-one f c true e ds = go (eqb e.client c) (f e) refl
  where
    go : (x y : Bool) → f e ≡ y → unmet f (pick x (others c ds) (e ∷ others c ds)) ≡ pick (pick x false (pick y false true)) (some e) (unmet f (others c ds))
    go true y h = refl
    go false true h = rw h refl
    go false false h = rw h refl

unmet-none : (f : Id → Bool) (c : ℕ) → unmet f (others c []) ≡ none
unfolding others unmet
unmet-none f c = refl

unmet-three : (f : Id → Bool) (c : ℕ) (a : Block)
    → unmet f (others c (deps a)) ≡ pick (stops f c a.has_left (left_id a)) (some (left_id a))
    (pick (stops f c a.has_right (right_id a)) (some (right_id a)) (pick (stops f c a.has_parent (parent_id a)) (some (parent_id a)) none))
unfolding deps
unmet-three f c a =
    unmet-one f c a.has_left (left_id a) _
    ∙ ap (pick (stops f c a.has_left (left_id a)) (some (left_id a)))
    (unmet-one f c a.has_right (right_id a) _
    ∙ ap (pick (stops f c a.has_right (right_id a)) (some (right_id a)))
    (unmet-one f c a.has_parent (parent_id a) [] ∙ ap (pick (stops f c a.has_parent (parent_id a)) (some (parent_id a))) (unmet-none f c)))

three : (x y z : Bool) (l r p e : Id) → pick x (some l) (pick y (some r) (pick z (some p) none)) ≡ some e → pick x l (pick y r p) ≡ e
three true y z l r p e h = let q : l ≡ e = cc in q
three false true z l r p e h = let q : r ≡ e = cc in q
three false false true l r p e h = let q : p ≡ e = cc in q
three false false false l r p e h = absurd (let z : ◌≡◌ {A = ℕ} 0 1 = cc in omega arith)

-- ---- a block and the same by number, where what is met is what was held at first or the counts have come to

module _ (us : List Slot) (reach : List ℕ) (κ : ℕ → ℕ) (shows : Shows us reach κ) (gone : Id → Bool) (place : Id → ℕ) (f : Id → Bool)
    (same : (e : Id) → f e ≡ (gone e || below κ (record { client = e.client; clock = place e }))) (a : Block) (item : is_skip a ≡ false) (k : ℕ) where
  abbrev still : Bool → Id → Bool
  still there e = asked gone place a there e

  hold-one : (there : Bool) (e : Id)
      → holds us reach (other a.client (still there e) (placed gone place (still there e) e)) ≡ stops f a.client there e
  unfolding holds other asked placed stops
  hold-one there e = rw item (go there (eqb e.client a.client) refl (gone e) (same e))
    where
      n : Id
      n = record { client = e.client; clock = place e }

      met : (y : Bool) → f e ≡ y → is_met us reach n ≡ y → pick (is_met us reach n) false true ≡ pick (f e) false true
      met y p q = rw (p, q) refl

      go : (x y : Bool) → eqb e.client a.client ≡ y → (z : Bool) → f e ≡ (z || below κ n)
          → holds us reach (dep (pick (eqb (pick (pick x (pick y false (pick z false true)) false) n no_id).client a.client) false (pick x (pick y false (pick z false true)) false))
          (pick (pick x (pick y false (pick z false true)) false) n no_id))
          ≡ pick x (pick y false (pick (f e) false true)) false
      go false y p z q = off (eqb 0 a.client) no_id
        where
          off : (b : Bool) (i : Id) → holds us reach (dep (pick b false false) i) ≡ false
          off true i = refl
          off false i = refl
      go true true p z q = off (eqb 0 a.client) no_id
        where
          off : (b : Bool) (i : Id) → holds us reach (dep (pick b false false) i) ≡ false
          off true i = refl
          off false i = refl
      go true false p true q = off (eqb 0 a.client) no_id ∙ rw q refl
        where
          off : (b : Bool) (i : Id) → holds us reach (dep (pick b false false) i) ≡ false
          off true i = refl
          off false i = refl
      go true false p false q = rw p (met (below κ n) q (met-below 28 shows n))

  left-id : (stage_at 28 a 0).id ≡ left_id a
  unfolding other
  left-id = ap (λ (x : Dependency). x.id) (stage-left a) ∙ rw item refl

  right-id : (stage_at 28 a 1).id ≡ right_id a
  unfolding other
  right-id = ap (λ (x : Dependency). x.id) (stage-right a) ∙ rw item refl

  parent-id : (stage_at 28 a 2).id ≡ parent_id a
  unfolding other
  parent-id = ap (λ (x : Dependency). x.id) (stage-parent a) ∙ rw item refl

  holds-left : holds us reach (stage_at 28 (by_number gone place k a) 0) ≡ stops f a.client a.has_left (left_id a)
  unfolding by_number
  holds-left = ap (holds us reach) (stage-left (by_number gone place k a)) ∙ hold-one a.has_left (left_id a)

  holds-right : holds us reach (stage_at 28 (by_number gone place k a) 1) ≡ stops f a.client a.has_right (right_id a)
  unfolding by_number
  holds-right = ap (holds us reach) (stage-right (by_number gone place k a)) ∙ hold-one a.has_right (right_id a)

  pub first-is : (e : Id) → unmet f (others a.client (deps a)) ≡ some e → first_unmet us reach a (by_number gone place k a) ≡ e
  unfolding first_unmet
  first-is e h = rw (holds-left, holds-right, left-id, right-id, parent-id)
      (three (stops f a.client a.has_left (left_id a)) (stops f a.client a.has_right (right_id a)) (stops f a.client a.has_parent (parent_id a))
      (left_id a) (right_id a) (parent_id a) e (sym (unmet-three f a.client a) ∙ h))

-- ---- slot after slot

module _ (bs : List Block) (fit : Fit bs) (rows : List Block) (back : take (length bs) rows ≡ bs) (short : length rows ≤ nowhere) (w : List ℕ) (h : ℕ)
    (normal : Normal (rows_from w 0 h)) (before : List ℕ) where
  abbrev us : List Slot
  us = ss bs fit rows back short w h normal

  abbrev numbered : List Block
  numbered = ns bs fit rows back short w h normal

  abbrev reach : List ℕ
  reach = (d bs fit rows back short w h normal before).reach

  abbrev fronts : List ℕ
  fronts = (d bs fit rows back short w h normal before).fronts

  abbrev s : State Id
  s = outcome rule_held bs (owners bs) (held bs fit rows back short w h normal)

  abbrev u : State ℕ
  u = outcome_of rule28 numbered []

  ended : Ended 28 numbered us u reach fronts
  unfolding asks_of
  ended = (came bs fit rows back short w h normal before).ended

  shown : Shows us reach u.known
  shown = record { at = ended.reaches; else = ended.others }

  module _ (i : ℕ) (small : i < length us) where
    abbrev c : ℕ
    c = (slot_of us i).client

    abbrev fr : Front
    fr = front_at fronts i

    left_is : fr.left + s.taken c ≡ length (queue bs c)
    left_is = omega (arith, ended.left i small, (is-slotted bs fit rows back short w h normal).counts i small, (end bs fit rows back short w h normal).taken c)

    module _ (more : 0 < fr.left) where
      below-count : s.taken c < length (queue bs c)
      below-count = omega (arith, left_is)

      abbrev a : Block
      a = get_or (queue bs c) (s.taken c) no_block

      slot-count : s.taken c < (slot_of us i).count
      slot-count = omega (arith, (is-slotted bs fit rows back short w h normal).counts i small, below-count)

      next-is : fr.next ≡ (slot_of us i).first + s.taken c
      next-is = omega (arith, ended.next i small more, (end bs fit rows back short w h normal).taken c)

      row_is : get_or rows fr.next no_block ≡ a
      row_is = ap (λ (x : ℕ). get_or rows x no_block) next-is ∙ row_block (is-slotted bs fit rows back short w h normal) fit.ordered i (s.taken c) small slot-count rows back

      numbered_is : get_or (numbered_in w h us rows) fr.next no_block
          ≡ by_number (is-gone bs fit rows back short w h normal) (placed_at bs fit rows back short w h normal) (s.taken c) a
      numbered_is =
          ap (λ (x : ℕ). get_or (numbered_in w h us rows) x no_block) next-is
          ∙ row_block (slotted-so bs fit rows back short w h normal) (sortable bs fit rows back short w h normal).ordered i (s.taken c) small slot-count
          (numbered_in w h us rows) (agree bs fit rows back short w h normal)
          ∙ numbered-at (is-gone bs fit rows back short w h normal) (placed_at bs fit rows back short w h normal) (first_of us) bs fit.ordered
          (firsts bs fit rows back short w h normal) c (s.taken c) below-count

      is-left : is_left fr (length rows) ≡ true
      unfolding is_left
      is-left = rw (ne_eqb fr.left 0 (λ e. omega arith))
          (lt-ltb fr.next (length rows) (omega (arith, next-is, row_below (is-slotted bs fit rows back short w h normal) fit.ordered i (s.taken c) small slot-count, rows_long)))
        where
          rows_long : length bs ≤ length rows
          rows_long = omega (arith, length-take (length bs) rows, ap length back)

      -- a Skip is not left
      skip-none : is_skip a ≡ true → ⊥
      unfolding outcome Stuck system
      skip-none e = (held-sorts bs (held bs fit rows back short w h normal)).ends.end c (can-intro (steps rule_held bs) s c below-count (rw e tt))

      item : is_skip a ≡ false
      item = go (is_skip a) refl
        where
          go : (x : Bool) → is_skip a ≡ x → is_skip a ≡ false
          go true e = absurd (skip-none e)
          go false e = e

      abbrev Reported : Type 0
      Reported = (e : Id) × (report rule_held (queue bs) s c ≡ some e)

      reported : Reported
      reported =
          let l = left-waits rule_held held-mono bs (owners bs) (clients-blocks bs []) (held bs fit rows back short w h normal) c below-count in
          (l.0, l.1)

      unmet-is : (e : Id) → report rule_held (queue bs) s c ≡ some e → unmet (λ (x : Id). ltb 0 (s.known x)) (others a.client (deps a)) ≡ some e
      unfolding waits rule_held asks28
      unmet-is e p = ap (λ (x : ℕ). unmet (λ (y : Id). ltb 0 (s.known y)) (others x (deps a))) (owner_at bs c (s.taken c) below-count) ∙ report-waits rule_held (queue bs) s c e p

      first-unmet : (e : Id) → report rule_held (queue bs) s c ≡ some e
          → first_unmet us reach (get_or rows fr.next no_block) (get_or (numbered_in w h us rows) fr.next no_block) ≡ e
      first-unmet e p =
          ap (λ (b : Block). first_unmet us reach b (get_or (numbered_in w h us rows) fr.next no_block)) row_is ∙ ap (first_unmet us reach a) numbered_is
          ∙ first-is us reach u.known shown (is-gone bs fit rows back short w h normal) (placed_at bs fit rows back short w h normal) (λ (x : Id). ltb 0 (s.known x))
          (met bs fit rows back short w h normal) a item (s.taken c) e (unmet-is e p)

    -- the words of slot i before any others are those that its client is reported with
    abbrev Told : Type 0
    Told = (rest : List ℕ) → waiting_of us reach rows (numbered_in w h us rows) (slot_of us i) fr ++ rest ≡ waiting (λ (e : Id). e.clock) c (report rule_held (queue bs) s c) rest

    told-left : 0 < fr.left → Told
    unfolding waiting_of waiting_words
    told-left l rest =
        let r = reported l in
        rw (is-left l, r.1) (ap (λ (e : Id). c ∷ (e.client ∷ (e.clock ∷ rest))) (first-unmet l r.0 r.1))

    told_none : fr.left ≡ 0 → Told
    unfolding waiting_of is_left report
    told_none e rest = rw (eq-eqb fr.left 0 e, le-ltb (s.taken c) (length (queue bs c)) (omega (arith, left_is))) refl

    told : Told
    told = go (ltb 0 fr.left) refl
      where
        go : (x : Bool) → ltb 0 fr.left ≡ x → Told
        go true e = told-left (ltb-true 0 fr.left e)
        go false e = told_none (omega (arith, ltb-false 0 fr.left e))

  -- ---- all slots

  abbrev One : ℕ → Slot → Type 0
  One i t = (rest : List ℕ) → waiting_of us reach rows (numbered_in w h us rows) t (front_at fronts i) ++ rest ≡ waiting (λ (e : Id). e.clock) t.client (report rule_held (queue bs) s t.client) rest

  told-from : (n : ℕ) (ts : List Slot) → ((i : ℕ) → i < length ts → One (n + i) (slot_of ts i))
      → waiting_from us reach fronts rows (numbered_in w h us rows) n ts ≡ pending_in rule_held bs s (clients_of ts)
  unfolding waiting_from pending_in rule_held
  told-from n [] f = refl
  told-from n (t ∷ ts) f =
      ap (λ (l : List ℕ). waiting_of us reach rows (numbered_in w h us rows) t (front_at fronts n) ++ l)
      (told-from (suc n) ts (λ i l. subst (λ (k : ℕ). One k (slot_of ts i)) (omega arith) (f (suc i) (omega arith))))
      ∙ subst (λ (k : ℕ). One k t) (omega arith) (f 0 (omega arith)) (pending_in rule_held bs s (clients_of ts))

  pub pending-so : pending_by w h us rows (length bs) before ≡ pending_held bs (rows_from w 0 h)
  unfolding pending_by pending_held
  pending-so =
      told-from 0 us (λ i l. subst (λ (k : ℕ). One k (slot_of us i)) (omega arith) (told i l))
      ∙ ap (pending_in rule_held bs s) (is-slotted bs fit rows back short w h normal).names
