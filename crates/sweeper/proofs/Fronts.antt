-- What holds a front, and in which row it stands.
use mathlib.Core.Path.{◌≡◌, refl, sym, ◌∙◌}
use mathlib.Core.Bool.{Bool, true, false, false≢true}
use mathlib.Core.List.{List, [], ◌∷◌}
use Prim.Native.Nat.{ℕ, zero, suc, ◌+◌, ◌≤◌, ◌<◌}
use native.Mathlib.Omega.{arith}
use lib.Dec.{ltb}
use lib.ListN.{length, get_or, drop}
use borrow.Author.Tests.{ltb-true, ltb-false, lt-ltb, le-ltb}
use Rattle.numbers.specs.Number.{pick}
use Rattle.parts.specs.Brim.{brim}
use Rattle.slots.specs.Slots.{Slot}
use Rattle.picker.specs.declared.stages.Dependency.{Dependency}
use Rattle.picker.specs.Waits.{no_dependency}
use Rattle.picker.specs.Picker.{nowhere, holds}
use Rattle.sweeper.specs.Sweeper.{first_held, front_row}

-- ---- what holds a block

module _ (ss : List Slot) (reach : List ℕ) where
  none_free : holds ss reach no_dependency ≡ false
  unfolding holds
  none_free = refl

  pub held_at : (ds : List Dependency) (k : ℕ) → holds ss reach (get_or ds k no_dependency) ≡ true → first_held ss reach (drop k ds) ≡ get_or ds k no_dependency
  unfolding first_held
  held_at [] k h = absurd (false≢true (sym none_free ∙ h))
  held_at (a ∷ ds) zero h = rw h refl
  held_at (a ∷ ds) (suc k) h = held_at ds k h

  pub free-at : (ds : List Dependency) (k : ℕ) → holds ss reach (get_or ds k no_dependency) ≡ false → first_held ss reach (drop (suc k) ds) ≡ first_held ss reach (drop k ds)
  unfolding first_held
  free-at [] k h = go k
    where
      go : (k : ℕ) → first_held ss reach (drop (suc k) []) ≡ first_held ss reach (drop k [])
      go zero = refl
      go (suc k) = refl
  free-at (a ∷ ds) zero h = rw h refl
  free-at (a ∷ ds) (suc k) h = free-at ds k h

  pub held_none : (ds : List Dependency) (k : ℕ) → length ds ≤ k → first_held ss reach (drop k ds) ≡ no_dependency
  unfolding first_held
  held_none [] zero h = refl
  held_none [] (suc k) h = refl
  held_none (a ∷ ds) zero h = absurd (omega arith)
  held_none (a ∷ ds) (suc k) h = held_none ds k (omega arith)

-- ---- the row of a front

module _ (s : Slot) (done : ℕ) where
  pub row-over : s.count ≤ done → nowhere ≡ front_row s done
  unfolding front_row
  row-over h = rw (le-ltb done s.count h) refl

  pub row_is : done < s.count → s.first ≤ brim → done ≤ brim → s.first + done ≡ front_row s done
  unfolding front_row
  row_is h near early = rw (lt-ltb done s.count h, le-ltb brim s.first near, le-ltb brim done early) refl

  -- a row that there is
  pub row-there : front_row s done < nowhere → (done < s.count) × (done ≤ brim)
  unfolding front_row
  row-there = go (ltb done s.count) refl (ltb brim s.first) (ltb brim done) refl
    where
      go : (x : Bool) → ltb done s.count ≡ x → (y z : Bool) → ltb brim done ≡ z
          → pick x (pick y nowhere (pick z nowhere (s.first + done))) nowhere < nowhere → (done < s.count) × (done ≤ brim)
      go true e true z f h = absurd (omega arith)
      go true e false true f h = absurd (omega arith)
      go true e false false f h = (ltb-true done s.count e, ltb-false brim done f)
      go false e y z f h = absurd (omega arith)
