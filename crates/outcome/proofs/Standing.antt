-- How fronts and reaches stand to a state while sorting goes on, and that one step more leaves them so.
use Prim.Native.Nat.{ℕ, suc, ◌+◌, ◌-◌, ◌*◌, ◌/◌, ◌≤◌, ◌<◌, max}
use mathlib.Core.Path.{◌≡◌, refl, sym, ap, ◌∙◌}
use mathlib.Core.Logic.{inl, inr, ◌≢◌}
use mathlib.Core.Bool.{Bool, true, false, false≢true}
use mathlib.Core.List.{List}
use native.Mathlib.Omega.{arith}
use lib.Dec.{ltb, leb, eqb}
use lib.ListN.{length, get_or, set, length-set}
use lib.Seq.{get_or-set_same, get_or-set_other}
use borrow.Author.Tests.{lt-ltb, le-ltb, leb-true, leb-false, eqb-true, eqb-false}
use Rattle.numbers.specs.Number.{pick}
use Rattle.numbers.specs.Limits.{max_clock}
use Rattle.block.specs.declared.Block.{Block}
use Rattle.parts.specs.Brim.{brim}
use Rattle.slots.specs.Slots.{Slot, Falling, is_named}
use Rattle.slots.proofs.Ranks.{client_at, slot-named}
use Rattle.picker.specs.declared.fronts.Front.{Front}
use Rattle.picker.specs.Fronts.{never, front_at, put_front}
use Rattle.picker.specs.Picker.{one_more, moved, lifted, lift}
use Rattle.picker.proofs.FrontLaws.{length-put, front-put, other-put}
use Rattle.sorting.specs.Steps.{State, step}
use Rattle.sorting.specs.Rules.{is_skip}
use Rattle.sorting.specs.Named.{asks_of, rule_of}
use Rattle.sorting.specs.Sorted.{steps}
use Rattle.sorting.proofs.Outcome.{Moved, step-taken, step-own}
use Rattle.sorting.proofs.Demand.{front, lifts, skip-lifts-none, others-stay}
use Rattle.outcome.specs.Tie.{slot_of}
use Rattle.outcome.proofs.Looks.{Shows, FrontOk, unseen, front-up}
use Rattle.outcome.proofs.Places.{slot_apart}

-- a front of slot i, in a state
pub record Held (rule : ℕ) (bs : List Block) (ss : List Slot) (s : State ℕ) (i : ℕ) (f : Front) : Type 0 where
  pub left : f.left + s.taken (client_at ss i) ≡ (slot_of ss i).count
  pub over : f.left ≡ 0 → (f.need ≡ never) × (f.slot ≡ 0)
  pub next : 0 < f.left → f.next ≡ (slot_of ss i).first + s.taken (client_at ss i)
  pub ok : 0 < f.left → FrontOk rule s.known ss (front bs s (client_at ss i)) f

pub record Standing (rule : ℕ) (bs : List Block) (ss : List Slot) (reach fronts : List ℕ) (s : State ℕ) : Type 0 where
  pub room : (length ss ≤ length reach) × (6 * length ss ≤ length fronts)
  pub shows : Shows ss reach s.known
  pub low : (c : ℕ) → s.known c ≤ max_clock
  pub held : (i : ℕ) → i < length ss → Held rule bs ss s i (front_at fronts i)

-- ---- a step

module _ (rule : ℕ) (bs : List Block) (s : State ℕ) (c : ℕ) where
  pub taken-other : (d : ℕ) → d ≢ c → (step (steps (rule_of rule) bs) s c).taken d ≡ s.taken d
  taken-other d ne = go (step-taken (steps (rule_of rule) bs) s c d)
    where
      go : Moved (steps (rule_of rule) bs) s c d → (step (steps (rule_of rule) bs) s c).taken d ≡ s.taken d
      go (inl w) = absurd (ne w.0)
      go (inr w) = w.1

  known_more : (a : ℕ) → s.known a ≤ (step (steps (rule_of rule) bs) s c).known a
  unfolding step
  known_more a = omega arith

  known-own : (front bs s c).clock + (front bs s c).length.0 ≤ max_clock → (step (steps (rule_of rule) bs) s c).known c ≡ lifted (s.known c) (front bs s c)
  unfolding lifted
  known-own h = rw (le-ltb max_clock (front bs s c).length.0 (omega arith)) (go (is_skip (front bs s c)) refl)
    where
      go : (x : Bool) → is_skip (front bs s c) ≡ x
          → (step (steps (rule_of rule) bs) s c).known c ≡ pick x (s.known c) (max (s.known c) ((front bs s c).clock + (front bs s c).length.0))
      go true e = skip-lifts-none (asks_of rule) bs s c c e
      go false e = lifts (asks_of rule) bs s c e

  lifted-low : (r : ℕ) (b : Block) → b.clock + b.length.0 ≤ max_clock → r ≤ max_clock → lifted r b ≤ max_clock
  unfolding lifted
  lifted-low r b h l = go (eqb b.kind 2) (ltb max_clock b.length.0)
    where
      go : (x y : Bool) → pick x r (pick y r (max r (b.clock + b.length.0))) ≤ max_clock
      go true y = l
      go false true = l
      go false false = omega arith

  known-low : (front bs s c).clock + (front bs s c).length.0 ≤ max_clock → ((a : ℕ) → s.known a ≤ max_clock) → (a : ℕ) → (step (steps (rule_of rule) bs) s c).known a ≤ max_clock
  known-low h low a = go (eqb a c) refl
    where
      go : (x : Bool) → eqb a c ≡ x → (step (steps (rule_of rule) bs) s c).known a ≤ max_clock
      go true e =
          let p : a ≡ c = eqb-true a c e in
          rw p (omega (arith, known-own h, lifted-low (s.known c) (front bs s c) h (low c)))
      go false e = omega (arith, others-stay (asks_of rule) bs s c a (eqb-false a c e), low a)

-- ---- reaches: one step more

module _ (rule : ℕ) (bs : List Block) {ss : List Slot} (falling : Falling ss) {reach : List ℕ} (s : State ℕ) (room : length ss ≤ length reach)
    (shows : Shows ss reach s.known) (i : ℕ) (small : i < length ss)
    (end : (front bs s (client_at ss i)).clock + (front bs s (client_at ss i)).length.0 ≤ max_clock) where
  pub lift-shows : Shows ss (lift reach i (front bs s (client_at ss i))) (step (steps (rule_of rule) bs) s (client_at ss i)).known
  unfolding lift
  lift-shows = record { at = λ j hj. go j hj (eqb j i) refl; else = other }
    where
      c : ℕ
      c = client_at ss i

      go : (j : ℕ) → j < length ss → (x : Bool) → eqb j i ≡ x
          → get_or (set reach i (lifted (get_or reach i 0) (front bs s c))) j 0 ≡ (step (steps (rule_of rule) bs) s c).known (client_at ss j)
      go j hj true e =
          let p : j ≡ i = eqb-true j i e in
          rw p (get_or-set_same reach i (lifted (get_or reach i 0) (front bs s c)) 0 (omega arith)
          ∙ ap (λ (r : ℕ). lifted r (front bs s c)) (shows.at i small) ∙ sym (known-own rule bs s c end))
      go j hj false e =
          let ne = eqb-false j i e in
          get_or-set_other reach i j (lifted (get_or reach i 0) (front bs s c)) 0 ne ∙ shows.at j hj
          ∙ sym (others-stay (asks_of rule) bs s c (client_at ss j) (slot_apart ss falling j i hj small ne))

      other : (d : ℕ) → is_named d ss ≡ false → (step (steps (rule_of rule) bs) s c).known d ≡ 0
      other d e = others-stay (asks_of rule) bs s c d (λ p. false≢true (sym e ∙ ap (λ (x : ℕ). is_named x ss) p ∙ slot-named ss i falling small)) ∙ shows.else d e

-- ---- fronts

module _ {rule : ℕ} {bs : List Block} {ss : List Slot} {s : State ℕ} {i : ℕ} {f : Front} (h : Held rule bs ss s i f) where
  held-other : (c : ℕ) → client_at ss i ≢ c → Held rule bs ss (step (steps (rule_of rule) bs) s c) i f
  held-other c ne =
      let e = taken-other rule bs s c (client_at ss i) ne in
      record {
        left = rw e h.left;
        over = h.over;
        next = λ l. rw e (h.next l);
        ok = λ l. rw e (front-up rule s.known (step (steps (rule_of rule) bs) s c).known (known_more rule bs s c) ss (front bs s (client_at ss i)) f (h.ok l));
      }

  held_moved : 0 < f.left → f.next < brim → Held rule bs ss (step (steps (rule_of rule) bs) s (client_at ss i)) i (moved f f.next)
  unfolding moved one_more
  held_moved l small = rw (lt-ltb f.next brim small) (go (leb f.left 1) refl)
    where
      go : (x : Bool) → leb f.left 1 ≡ x
          → Held rule bs ss (step (steps (rule_of rule) bs) s (client_at ss i)) i
          (pick x (record { next = suc f.next; left = 0; slot = 0; need = never; stage = 0; missing = 0 })
          (record { next = suc f.next; left = f.left - 1; slot = 0; need = 0; stage = 0; missing = 0 }))
      go true e =
          let o : f.left ≤ 1 = leb-true f.left 1 e in
          record {
            left = omega (arith, h.left, step-own (steps (rule_of rule) bs) s (client_at ss i));
            over = λ z. (refl, refl);
            next = λ z. absurd (omega arith);
            ok = λ z. absurd (omega arith);
          }
      go false e =
          let o : 1 < f.left = leb-false f.left 1 e in
          record {
            left = omega (arith, h.left, step-own (steps (rule_of rule) bs) s (client_at ss i));
            over = λ z. absurd (omega arith);
            next = λ z. omega (arith, h.next l, step-own (steps (rule_of rule) bs) s (client_at ss i));
            ok = λ z. unseen refl refl;
          }

-- ---- all of them

module _ {rule : ℕ} {bs : List Block} {ss : List Slot} (falling : Falling ss) {reach fronts : List ℕ} {s : State ℕ} (st : Standing rule bs ss reach fronts s) (i : ℕ)
    (small : i < length ss) where
  there : i < length fronts / 6
  there = omega (arith, st.room)

  pub stand-kept : (g : Front) → Held rule bs ss s i g → Standing rule bs ss reach (put_front fronts i g) s
  stand-kept g hg = record {
    room = (st.room.0, rw (length-put fronts i g) st.room.1);
    shows = st.shows;
    low = st.low;
    held = λ j hj. go j hj (eqb j i) refl;
  }
    where
      go : (j : ℕ) → j < length ss → (x : Bool) → eqb j i ≡ x → Held rule bs ss s j (front_at (put_front fronts i g) j)
      go j hj true e =
          let p : j ≡ i = eqb-true j i e in
          rw p (rw (front-put fronts i g there) hg)
      go j hj false e = rw (other-put fronts i g j (eqb-false j i e)) (st.held j hj)

  module _ (end : (front bs s (client_at ss i)).clock + (front bs s (client_at ss i)).length.0 ≤ max_clock) where
    pub stand-took : 0 < (front_at fronts i).left → (front_at fronts i).next < brim
        → Standing rule bs ss (lift reach i (front bs s (client_at ss i))) (put_front fronts i (moved (front_at fronts i) (front_at fronts i).next))
        (step (steps (rule_of rule) bs) s (client_at ss i))
    unfolding lift
    stand-took l nb = record {
      room = (simp length-set st.room.0, rw (length-put fronts i (moved (front_at fronts i) (front_at fronts i).next)) st.room.1);
      shows = lift-shows rule bs falling s st.room.0 st.shows i small end;
      low = known-low rule bs s (client_at ss i) end st.low;
      held = λ j hj. go j hj (eqb j i) refl;
    }
      where
        g : Front
        g = moved (front_at fronts i) (front_at fronts i).next

        go : (j : ℕ) → j < length ss → (x : Bool) → eqb j i ≡ x → Held rule bs ss (step (steps (rule_of rule) bs) s (client_at ss i)) j (front_at (put_front fronts i g) j)
        go j hj true e =
            let p : j ≡ i = eqb-true j i e in
            rw p (rw (front-put fronts i g there) (held_moved (st.held i small) l nb))
        go j hj false e =
            let ne = eqb-false j i e in
            rw (other-put fronts i g j ne) (held-other (st.held j hj) (client_at ss i) (slot_apart ss falling j i hj small ne))
