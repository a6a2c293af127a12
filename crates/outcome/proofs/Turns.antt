-- What the first front that is due, and one that is not, say of the steps that are possible; and how many looks the fronts may still need.
use Prim.Native.Nat.{ℕ, suc, ◌+◌, ◌-◌, ◌*◌, ◌/◌, ◌≤◌, ◌<◌}
use mathlib.Core.Path.{◌≡◌, refl, sym, ap, subst, ◌∙◌}
use mathlib.Core.Logic.{◌≢◌}
use mathlib.Core.Bool.{Bool, true, false, ◌||◌}
use mathlib.Core.List.{List}
use mathlib.Core.Option.{some}
use native.Mathlib.Nat.{mul-zero, mul-suc}
use native.Mathlib.Omega.{arith}
use lib.Dec.{T, ltb, leb, eqb}
use lib.ListN.{length, get_or, take}
use borrow.Author.Tests.{ltb-true, ltb-false, lt-ltb, leb-true, leb-false, eqb-true, eqb-false}
use Rattle.numbers.specs.Number.{pick}
use Rattle.numbers.specs.Limits.{max_clock}
use Rattle.block.specs.declared.Id.{Id}
use Rattle.block.specs.declared.Block.{Block}
use Rattle.block.specs.Row.{no_block}
use Rattle.vector.specs.Vector.{Entry}
use Rattle.readings.specs.Sound.{All}
use Rattle.slots.specs.Slots.{Slot}
use Rattle.slots.proofs.Ranks.{client_at}
use Rattle.picker.specs.declared.fronts.Front.{Front}
use Rattle.picker.specs.Fronts.{never, front_at, put_front, is_due}
use Rattle.picker.specs.Stages.{stage_count}
use Rattle.picker.specs.Picker.{one_more, looked, looks_each, moved, lift}
use Rattle.picker.proofs.FrontLaws.{front-put, other-put}
use Rattle.sorting.specs.Steps.{State, can, step, Stuck}
use Rattle.sorting.specs.Rules.{queue, is_skip, waits, free, system, report}
use Rattle.sorting.specs.Named.{rule_of}
use Rattle.sorting.specs.Sorted.{steps, block_numbers_from}
use Rattle.sorting.proofs.Outcome.{can-fits, can-ready, can-intro}
use Rattle.sorting.proofs.Numbers.{owner_at}
use Rattle.sorting.proofs.Demand.{front}
use Rattle.outcome.specs.Tie.{slot_of, Slotted, Sortable, Awaits, Ended}
use Rattle.outcome.proofs.Asked.{Clocks}
use Rattle.outcome.proofs.Looks.{Passed, Waiting, due-passed, not-due, ready_by, waits-by, looked-next, looked-left}
use Rattle.outcome.proofs.Sums.{sum, sum-at, sum_less}
use Rattle.outcome.proofs.Places.{slot-lower, slot-for, block-has, row_number, row_below, row_block}
use Rattle.outcome.proofs.Standing.{Standing, stand-kept, stand-took}
use Rattle.outcome.proofs.Pointed.{Idle, Due, Chosen}

-- ---- looks: so many a block, less those that found what it waits for

abbrev pub weight : ℕ → Front → ℕ
weight rule f = looks_each rule * f.left - f.stage

unfoldable pub work : ℕ → List ℕ → ℕ → ℕ
work rule fronts n = sum (λ i. weight rule (front_at fronts i)) n

each-is : (rule : ℕ) → looks_each rule ≡ suc (stage_count rule)
unfolding looks_each
each-is rule = refl

-- the looks of one block, beside those of the blocks behind it
one_block : (rule l : ℕ) → 0 < l → looks_each rule * l ≡ looks_each rule * (l - 1) + suc (stage_count rule)
one_block rule l h =
    let e : suc (l - 1) ≡ l = omega arith in
    ap (λ (k : ℕ). looks_each rule * k) (sym e) ∙ mul-suc (looks_each rule) (l - 1) ∙ ap (λ (k : ℕ). looks_each rule * (l - 1) + k) (each-is rule)

work-put : (rule : ℕ) (fronts : List ℕ) (n i : ℕ) (g : Front) → i < n → i < length fronts / 6 → weight rule g < weight rule (front_at fronts i)
    → work rule (put_front fronts i g) n < work rule fronts n
unfolding work
work-put rule fronts n i g small there less =
    sum_less (λ j. weight rule (front_at (put_front fronts i g) j)) (λ j. weight rule (front_at fronts j)) n i small (rw (front-put fronts i g there) less)
    (λ j h. go j (eqb j i) refl)
  where
    go : (j : ℕ) (x : Bool) → eqb j i ≡ x → weight rule (front_at (put_front fronts i g) j) ≤ weight rule (front_at fronts j)
    go j true e = let p : j ≡ i = eqb-true j i e in rw p (rw (front-put fronts i g there) (omega arith))
    go j false e = rw (other-put fronts i g j (eqb-false j i e)) (omega arith)

-- what is given: the slots, and blocks within the limits
pub record Given (bs : List Block) (v : List Entry) (ss : List Slot) : Type 0 where
  pub slotted : Slotted bs v ss
  pub sortable : Sortable bs
  pub clocks : All Clocks bs

module _ {rule : ℕ} {bs : List Block} {v : List Entry} {ss : List Slot} (given : Given bs v ss) {reach fronts : List ℕ} {s : State ℕ}
    (st : Standing rule bs ss reach fronts s) where
  -- a slot's front, client and block
  abbrev f : ℕ → Front
  f i = front_at fronts i

  abbrev c : ℕ → ℕ
  c i = client_at ss i

  abbrev b : ℕ → Block
  b i = front bs s (c i)

  module _ (i : ℕ) (small : i < length ss) where
    due-is : is_due fronts reach i ≡ leb (f i).need (get_or reach (f i).slot 0)
    unfolding is_due
    due-is = rw (lt-ltb i (length fronts / 6) (omega (arith, st.room))) refl

    reach-low : get_or reach 0 0 < never
    reach-low = omega (arith, st.shows.at 0 (omega arith), st.low (c 0))

    -- the front has blocks left when the client has
    left-fits : 0 < (f i).left → s.taken (c i) < length (queue bs (c i))
    left-fits l = omega (arith, (st.held i small).left, given.slotted.counts i small)

    fits-left : s.taken (c i) < length (queue bs (c i)) → 0 < (f i).left
    fits-left h = omega (arith, (st.held i small).left, given.slotted.counts i small)

    -- ---- a front that is not due

    idle-waits : is_due fronts reach i ≡ false → 0 < (f i).left
        → (d : Id) × (waits (rule_of rule) s.known (c i) (b i) ≡ some d) × (is_skip (b i) ≡ false) × ((f i).missing ≡ d.client) × Awaits ss (f i) d.client
    idle-waits e l =
        let fits = left-fits l in
        let w = not-due rule st.shows (b i) (f i) (block-has Clocks bs (c i) (s.taken (c i)) given.clocks fits) ((st.held i small).ok l)
        (leb-false (f i).need (get_or reach (f i).slot 0) (sym due-is ∙ e)) in
        (w.0, subst (λ (x : ℕ). waits (rule_of rule) s.known x (b i) ≡ some w.0) (owner_at bs (c i) (s.taken (c i)) fits) w.1, w.2, w.3, w.4)

    idle-not : is_due fronts reach i ≡ false → T (can (steps (rule_of rule) bs) s (c i)) → ⊥
    unfolding system
    idle-not e t =
        let w = idle-waits e (fits-left (can-fits (steps (rule_of rule) bs) s (c i) t)) in
        rw (w.2, w.1) at (can-ready (steps (rule_of rule) bs) s (c i) t)

    idle-reported : is_due fronts reach i ≡ false → 0 < (f i).left
        → (d : Id) × (report (rule_of rule) (queue bs) s (c i) ≡ some d) × ((f i).missing ≡ d.client) × Awaits ss (f i) d.client
    unfolding report
    idle-reported e l =
        let w = idle-waits e l in
        (w.0, rw (lt-ltb (s.taken (c i)) (length (queue bs (c i))) (left-fits l)) w.1, w.3, w.4)

  -- ---- a front that is due

  module _ {i : ℕ} (d : Due fronts reach (length ss) i) where
    comes : (f i).need ≤ get_or reach (f i).slot 0
    comes = leb-true (f i).need (get_or reach (f i).slot 0) (sym (due-is i d.small) ∙ d.due)

    due-left : 0 < (f i).left
    due-left = go (ltb 0 (f i).left) refl
      where
        go : (x : Bool) → ltb 0 (f i).left ≡ x → 0 < (f i).left
        go true e = ltb-true 0 (f i).left e
        go false e =
            let o = (st.held i d.small).over (omega (arith, ltb-false 0 (f i).left e)) in
            absurd (omega (arith, o.0, rw o.1 at comes, reach-low i d.small))

    fits : s.taken (c i) < length (queue bs (c i))
    fits = left-fits i d.small due-left

    counted : s.taken (c i) < (slot_of ss i).count
    counted = omega (arith, fits, given.slotted.counts i d.small)

    passed : Passed rule s.known (b i) (f i).stage × ((f i).stage ≤ stage_count rule)
    passed = due-passed rule st.shows (b i) (f i) ((st.held i d.small).ok due-left) comes (reach-low i d.small)

    next-is : (f i).next ≡ (slot_of ss i).first + s.taken (c i)
    next-is = (st.held i d.small).next due-left

    -- the row that it has next
    pub next-number : (f i).next ≡ get_or (block_numbers_from 0 bs (c i)) (s.taken (c i)) 0
    next-number = next-is ∙ row_number given.slotted given.sortable.ordered i (s.taken (c i)) d.small counted

    pub next-below : (f i).next < length bs
    next-below = omega (arith, next-is, row_below given.slotted given.sortable.ordered i (s.taken (c i)) d.small counted)

    pub next-block : (rows : List Block) → take (length bs) rows ≡ bs → get_or rows (f i).next no_block ≡ b i
    next-block rows e =
        ap (λ (n : ℕ). get_or rows n no_block) next-is ∙ row_block given.slotted given.sortable.ordered i (s.taken (c i)) d.small counted rows e

    -- it is looked at, and its block is taken
    module _ (e : (looked rule ss reach (f i) (b i)).need ≡ 0) where
      pub took-can : T (can (steps (rule_of rule) bs) s (c i))
      unfolding system
      took-can = can-intro (steps (rule_of rule) bs) s (c i) fits (subst (λ (x : ℕ). T (is_skip (b i) || free (waits (rule_of rule) s.known x (b i))))
          (owner_at bs (c i) (s.taken (c i)) fits) (ready_by rule st.shows (b i) (f i) passed.0 e))

      pub took-stands : Standing rule bs ss (lift reach i (b i)) (put_front fronts i (moved (f i) (f i).next)) (step (steps (rule_of rule) bs) s (c i))
      took-stands = stand-took given.slotted.falling st i d.small
          (block-has (λ (a : Block). a.clock + a.length.0 ≤ max_clock) bs (c i) (s.taken (c i)) given.sortable.ends fits) due-left
          (omega (arith, next-below, given.sortable.few))

      pub took-work : work rule (put_front fronts i (moved (f i) (f i).next)) (length ss) < work rule fronts (length ss)
      unfolding moved
      took-work = work-put rule fronts (length ss) i (moved (f i) (f i).next) d.small (omega (arith, d.small, st.room)) (go (leb (f i).left 1))
        where
          go : (x : Bool)
              → weight rule (pick x (record { next = one_more (f i).next; left = 0; slot = 0; need = never; stage = 0; missing = 0 })
              (record { next = one_more (f i).next; left = (f i).left - 1; slot = 0; need = 0; stage = 0; missing = 0 })) < weight rule (f i)
          go true = omega (arith, due-left, passed.1, one_block rule (f i).left due-left, mul-zero (looks_each rule))
          go false = omega (arith, due-left, passed.1, one_block rule (f i).left due-left)

    -- it waits
    module _ (ne : (looked rule ss reach (f i) (b i)).need ≢ 0) where
      waiting : Waiting rule s.known ss (b i) (f i) (looked rule ss reach (f i) (b i))
      waiting = waits-by rule st.shows (b i) (f i) passed.0 ne

      pub kept-stands : Standing rule bs ss reach (put_front fronts i (looked rule ss reach (f i) (b i))) s
      kept-stands =
          let h = st.held i d.small in
          let l = looked-left rule ss reach (f i) (b i) in
          stand-kept given.slotted.falling st i d.small (looked rule ss reach (f i) (b i)) (record {
            left = rw l h.left;
            over = λ z. absurd (omega (arith, l, due-left));
            next = λ z. looked-next rule ss reach (f i) (b i) ∙ h.next due-left;
            ok = λ z. waiting.0;
          })

      pub kept-work : work rule (put_front fronts i (looked rule ss reach (f i) (b i))) (length ss) < work rule fronts (length ss)
      kept-work = work-put rule fronts (length ss) i (looked rule ss reach (f i) (b i)) d.small (omega (arith, d.small, st.room))
          (rw (looked-left rule ss reach (f i) (b i)) (omega (arith, waiting.1, waiting.2, one_block rule (f i).left due-left)))

  -- ---- all fronts

  -- the first that is due is of the highest client that may be taken
  pub chosen-highest : {i : ℕ} → Chosen fronts reach (length ss) i → (a : ℕ) → T (can (steps (rule_of rule) bs) s a) → a ≤ c i
  unfolding system
  chosen-highest {i} chosen a t =
      let p = slot-for given.slotted a (omega (arith, can-fits (steps (rule_of rule) bs) s a t)) in
      rw (← p.2) (go p.0 p.1 (ltb p.0 i) refl (rw (← p.2) at t))
    where
      go : (j : ℕ) → j < length ss → (x : Bool) → ltb j i ≡ x → T (can (steps (rule_of rule) bs) s (c j)) → c j ≤ c i
      go j h true e t = absurd (idle-not j h (chosen.first j (ltb-true j i e)) t)
      go j h false e t = slot-lower ss given.slotted.falling i j (ltb-false j i e) h

  module _ (idle : Idle fronts reach (length ss)) where
    pub idle-stuck : Stuck (steps (rule_of rule) bs) s
    unfolding Stuck system
    idle-stuck a t =
        let p = slot-for given.slotted a (omega (arith, can-fits (steps (rule_of rule) bs) s a t)) in
        idle-not p.0 p.1 (idle p.0 p.1) (subst (λ (x : ℕ). T (can (steps (rule_of rule) bs) s x)) (sym p.2) t)

    pub idle_ended : Ended rule bs ss s reach fronts
    idle_ended = record {
      reaches = st.shows.at;
      others = st.shows.else;
      left = λ i small. (st.held i small).left;
      next = λ i small. (st.held i small).next;
      waits = λ i small l. idle-reported i small (idle i small) l;
    }

  -- where no look is left, none is needed
  pub spent-idle : work rule fronts (length ss) ≤ 0 → Idle fronts reach (length ss)
  unfolding work
  spent-idle spent j h = go (is_due fronts reach j) refl
    where
      go : (x : Bool) → is_due fronts reach j ≡ x → is_due fronts reach j ≡ false
      go true e =
          let d : Due fronts reach (length ss) j = record { small = h; due = e } in
          absurd (omega (arith, (passed d).1, one_block rule (f j).left (due-left d), sum-at (λ i. weight rule (f i)) (length ss) j h))
      go false e = e
