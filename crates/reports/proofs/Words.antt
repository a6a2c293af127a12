-- The words of one slot: none or all of them.
use Prim.Native.Nat.{ℕ, ◌+◌, ◌-◌, ◌*◌}
use mathlib.Core.Path.{◌≡◌, refl}
use mathlib.Core.List.{List, [], ◌∷◌}
use native.Mathlib.Omega.{arith}
use lib.Dec.{eqb}
use lib.ListN.{get_or}
use borrow.Author.Tests.{lt-ltb, le-ltb}
use Rattle.numbers.specs.Number.{pick}
use Rattle.slots.specs.Slots.{slot_at}
use Rattle.picker.specs.declared.fronts.Front.{Front}
use Rattle.picker.specs.Fronts.{never}
use Rattle.reports.specs.Reports.{count_of, reach_of, pending_of}

pub reach-words : (w reach : List ℕ) (i : ℕ) → reach_of (slot_at w i) reach i ≡ get_or w (3 * i) 0 ∷ (get_or reach i 0 ∷ [])
unfolding reach_of slot_at
reach-words w reach i = refl

module _ (w : List ℕ) (i : ℕ) (f : Front) where
  pub count_none : get_or w (3 * i + 2) 0 ≡ 0 → count_of (slot_at w i) f ≡ []
  unfolding count_of slot_at
  count_none e = rw (le-ltb 0 (get_or w (3 * i + 2) 0) (omega arith))

  pub count-some : (get_or w (3 * i + 2) 0 ≡ 0 → ⊥) → count_of (slot_at w i) f ≡ get_or w (3 * i) 0 ∷ ((get_or w (3 * i + 2) 0 - f.left) ∷ [])
  unfolding count_of slot_at
  count-some h = rw (lt-ltb 0 (get_or w (3 * i + 2) 0) (omega arith))

  pub pending-none : (reach : List ℕ) → f.left ≡ 0 → pending_of (slot_at w i) f reach ≡ []
  unfolding pending_of
  pending-none reach e = rw (le-ltb 0 f.left (omega arith))

  pub pending-some : (reach : List ℕ) → (f.left ≡ 0 → ⊥)
      → pending_of (slot_at w i) f reach ≡ get_or w (3 * i) 0 ∷ (f.missing ∷ (pick (eqb f.need never) 0 (get_or reach f.slot 0) ∷ []))
  unfolding pending_of slot_at
  pending-some reach h = rw (lt-ltb 0 f.left (omega arith))
