-- One slot after another: the words that are still to be stored, from a slot and a place on, leave what all the words would leave.
use Prim.Native.Nat.{ℕ, suc, ◌+◌, ◌-◌, ◌<◌}
use mathlib.Core.Path.{◌≡◌, refl, sym, ap, ◌∙◌}
use mathlib.Core.List.{List, [], ◌∷◌, ◌++◌}
use native.Mathlib.Nat.{zero-add, sub-zero}
use native.Mathlib.Numerals.{add-one}
use native.Mathlib.Omega.{arith}
use lib.ListN.{length, take, replicate, length-append}
use lib.Seq.{sets, length-sets}
use Rattle.numbers.proofs.Output.{sets-append}
use Rattle.slots.specs.Slots.{Slot, slot_at, slots_from}
use Rattle.slots.proofs.Words.{slots-here, slots-ended}
use Rattle.picker.specs.Fronts.{front_at}
use Rattle.reports.specs.Reports.{count_of, reach_of, pending_of, counts_from, reaches_from, pending_from, fitted}
use Rattle.reports.proofs.Fitted.{stored-fitted}

-- ---- a report: the words of slot i, and those of these slots, the first of which is slot i

pub record Report (one : ℕ → Slot → List ℕ) (all : ℕ → List Slot → List ℕ) : Type 0 where
  pub none : (i : ℕ) → all i [] ≡ []
  pub more : (i : ℕ) (s : Slot) (ss : List Slot) → all i (s ∷ ss) ≡ one i s ++ all (suc i) ss

pub counts : (fronts : List ℕ) → Report (λ i s. count_of s (front_at fronts i)) (λ i ss. counts_from i ss fronts)
unfolding counts_from
counts fronts = record { none = λ i. refl; more = λ i s ss. refl }

pub reaches : (reach : List ℕ) → Report (λ i s. reach_of s reach i) (λ i ss. reaches_from i ss reach)
unfolding reaches_from
reaches reach = record { none = λ i. refl; more = λ i s ss. refl }

pub pendings : (fronts reach : List ℕ) → Report (λ i s. pending_of s (front_at fronts i) reach) (λ i ss. pending_from i ss fronts reach)
unfolding pending_from
pendings fronts reach = record { none = λ i. refl; more = λ i s ss. refl }

-- before slot i of n, at a place: out₀ was lent, out is what it is
pub record Underway (all : ℕ → List Slot → List ℕ) (w : List ℕ) (n : ℕ) (out₀ out : List ℕ) (at i : ℕ) : Type 0 where
  pub words : sets out at (all i (slots_from w i (n - i))) ≡ sets out₀ 0 (all 0 (slots_from w 0 n))
  pub place : at + length (all i (slots_from w i (n - i))) ≡ length (all 0 (slots_from w 0 n))
  pub size : length out ≡ length out₀

module _ {one : ℕ → Slot → List ℕ} {all : ℕ → List Slot → List ℕ} (r : Report one all) where
  pub begun : (w : List ℕ) (n : ℕ) (out₀ : List ℕ) → Underway all w n out₀ out₀ 0 0
  begun w n out₀ = record { words = rw sub-zero; place = rw (sub-zero, zero-add); size = refl }

  module _ {w : List ℕ} {n : ℕ} {out₀ out : List ℕ} {at i : ℕ} (u : Underway all w n out₀ out at i) where
    -- slot i's words are stored
    pub turn : i < n → Underway all w n out₀ (sets out at (one i (slot_at w i))) (at + length (one i (slot_at w i))) (i + 1)
    turn h =
        let here : List ℕ = one i (slot_at w i) in
        let rest : List ℕ = all (i + 1) (slots_from w (i + 1) (n - (i + 1))) in
        let e : all i (slots_from w i (n - i)) ≡ here ++ rest =
        ap (all i) (slots-here w n i h) ∙ r.more i (slot_at w i) (slots_from w (i + 1) (n - (i + 1))) ∙ rw add-one in
        record {
          words = sym (ap (sets out at) e ∙ sets-append here rest out at) ∙ u.words;
          place = omega (arith, u.place, ap length e, length-append here rest);
          size = length-sets out at here ∙ u.size;
        }

    -- no slot is left, and what follows the words is cleared
    module _ (h : i ≡ n) where
      none_left : all i (slots_from w i (n - i)) ≡ []
      none_left = rw (slots-ended w n i (omega arith)) (r.none i)

      pub ended-place : at ≡ length (all 0 (slots_from w 0 n))
      ended-place = omega (arith, u.place, ap length none_left)

      pub ended-words : take at out ++ replicate (length out - at) 0 ≡ fitted (length out₀) (all 0 (slots_from w 0 n))
      ended-words =
          let e : out ≡ sets out₀ 0 (all 0 (slots_from w 0 n)) = sym (ap (sets out at) none_left) ∙ u.words in
          rw (e, ended-place) (stored-fitted out₀ (all 0 (slots_from w 0 n)))
