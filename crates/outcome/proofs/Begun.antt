-- Before the first look: fronts and reaches stand to the start, and the looks are enough.
use Prim.Native.Nat.{ℕ, ◌*◌, ◌≤◌, ◌<◌}
use mathlib.Core.Path.{◌≡◌, refl, sym, ap, subst, ◌∙◌}
use mathlib.Core.Logic.{inl, inr}
use mathlib.Core.Bool.{Bool, true, false, false≢true}
use mathlib.Core.List.{List, [], ◌∷◌}
use native.Mathlib.Nat.{mul-le-mul_left}
use native.Mathlib.Omega.{arith}
use lib.Dec.{eqb}
use lib.ListN.{length, get_or}
use borrow.Author.Tests.{eqb-true, eqb-false}
use Rattle.numbers.specs.Number.{pick}
use Rattle.numbers.specs.Limits.{max_clock}
use Rattle.block.specs.declared.Block.{Block}
use Rattle.vector.specs.Vector.{Entry, clients_in}
use Rattle.kept.specs.Kept.{remote}
use Rattle.readings.specs.Sound.{All}
use Rattle.slots.specs.Slots.{Slot, is_named}
use Rattle.slots.proofs.Ranks.{client_at, slot-named}
use Rattle.picker.specs.Fronts.{no_front, fresh, front_at}
use Rattle.picker.specs.Picker.{looks_each}
use Rattle.sorting.specs.Steps.{start}
use Rattle.sorting.specs.Quick.{Listed}
use Rattle.sorting.proofs.Clients.{clients-vector}
use Rattle.outcome.specs.Tie.{slot_of, Slotted, Opened}
use Rattle.outcome.proofs.Looks.{Shows, unseen}
use Rattle.outcome.proofs.Sums.{sum-le, sum-times, sizes, queues-fit}
use Rattle.outcome.proofs.Places.{slot_apart, listed-slot}
use Rattle.outcome.proofs.Standing.{Held, Standing}
use Rattle.outcome.proofs.Turns.{weight, work}

-- ---- what a vector says

remote-none : (v : List Entry) (c : ℕ) → (Listed c (clients_in v) → ⊥) → remote v c ≡ 0
unfolding remote
remote-none [] c h = refl
remote-none (e ∷ es) c h = go (eqb e.client c) refl (remote-none es c (λ l. h (inr l)))
  where
    go : (x : Bool) → eqb e.client c ≡ x → remote es c ≡ 0 → pick x e.clock (remote es c) ≡ 0
    go true p rest = absurd (h (inl (sym (eqb-true e.client c p))))
    go false p rest = rest

remote-low : (v : List Entry) (c : ℕ) → All (λ (e : Entry). e.clock ≤ max_clock) v → remote v c ≤ max_clock
unfolding remote
remote-low [] c all = omega arith
remote-low (e ∷ es) c all = go (eqb e.client c) (remote-low es c all.1)
  where
    go : (x : Bool) → remote es c ≤ max_clock → pick x e.clock (remote es c) ≤ max_clock
    go true rest = all.0
    go false rest = rest

-- the reaches of a vector
pub begun-shows : {bs : List Block} {v : List Entry} {ss : List Slot} {reach : List ℕ} → Slotted bs v ss
    → ((i : ℕ) → i < length ss → get_or reach i 0 ≡ remote v (slot_of ss i).client) → Shows ss reach (remote v)
begun-shows {bs} {v} {ss} {reach} slotted reaches = record { at = reaches; else = λ c e. remote-none v c (other c e) }
  where
    other : (c : ℕ) → is_named c ss ≡ false → Listed c (clients_in v) → ⊥
    other c e l =
        let p = listed-slot ss c (subst (Listed c) (sym slotted.names) (clients-vector bs v c l)) in
        false≢true (sym e ∙ ap (λ (d : ℕ). is_named d ss) (sym p.2) ∙ slot-named ss p.0 slotted.falling p.1)

module _ (rule : ℕ) {bs : List Block} {v : List Entry} {ss : List Slot} {reach fronts : List ℕ} (slotted : Slotted bs v ss) (opened : Opened v ss reach fronts) where
  begun-held : (i : ℕ) → i < length ss → Held rule bs ss (start (remote v)) i (front_at fronts i)
  unfolding fresh
  begun-held i small = rw (opened.begun i small) (go (eqb (slot_of ss i).count 0) refl)
    where
      go : (x : Bool) → eqb (slot_of ss i).count 0 ≡ x
          → Held rule bs ss (start (remote v)) i
          (pick x no_front (record { next = (slot_of ss i).first; left = (slot_of ss i).count; slot = 0; need = 0; stage = 0; missing = 0 }))
      go true e =
          let p : (slot_of ss i).count ≡ 0 = eqb-true (slot_of ss i).count 0 e in
          record { left = omega arith; over = λ z. (refl, refl); next = λ z. absurd (omega arith); ok = λ z. absurd (omega arith) }
      go false e =
          record {
            left = omega arith;
            over = λ z. absurd (eqb-false (slot_of ss i).count 0 e z);
            next = λ z. omega arith;
            ok = λ z. unseen refl refl;
          }

  pub begun-stands : All (λ (e : Entry). e.clock ≤ max_clock) v → Standing rule bs ss reach fronts (start (remote v))
  begun-stands low = record {
    room = opened.room;
    shows = begun-shows slotted opened.reaches;
    low = λ c. remote-low v c low;
    held = begun-held;
  }

  begun-weight : (i : ℕ) → i < length ss → weight rule (front_at fronts i) ≤ looks_each rule * sizes bs (client_at ss) i
  begun-weight i small =
      let e : (front_at fronts i).left ≡ sizes bs (client_at ss) i = omega (arith, (begun-held i small).left, slotted.counts i small) in
      omega (arith, ap (λ (n : ℕ). looks_each rule * n) e)

  pub begun-work : work rule fronts (length ss) ≤ looks_each rule * length bs
  unfolding work
  begun-work = omega (
    arith,
    sum-le (λ i. weight rule (front_at fronts i)) (λ i. looks_each rule * sizes bs (client_at ss) i) (length ss) begun-weight,
    sum-times (looks_each rule) (sizes bs (client_at ss)) (length ss),
    mul-le-mul_left (looks_each rule)
        (queues-fit bs (client_at ss) (length ss) (λ i j l h. slot_apart ss slotted.falling i j (omega arith) h (λ e. omega arith))),
  )
