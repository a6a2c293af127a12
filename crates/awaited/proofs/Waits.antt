-- A dependency that is not there, and one that is, met or not.
use mathlib.Core.Path.{◌≡◌, refl}
use mathlib.Core.Bool.{Bool, true, false, not}
use mathlib.Core.List.{List}
use Prim.Native.Nat.{ℕ}
use Rattle.numbers.specs.Number.{pick}
use Rattle.slots.specs.Slots.{Slot, rank, is_named}
use Rattle.picker.specs.declared.stages.Dependency.{Dependency}
use Rattle.picker.specs.Picker.{met_at, is_met, holds}

module _ (ss : List Slot) (reach : List ℕ) (a : Dependency) where
  pub absent : a.there ≡ false → false ≡ holds ss reach a
  unfolding holds
  absent e = rw e refl

  pub present : a.there ≡ true → (p : ℕ) (named : Bool) → p ≡ rank a.id.client ss → named ≡ is_named a.id.client ss
      → (met : Bool) → met ≡ met_at reach p named a.id → not met ≡ holds ss reach a
  unfolding holds is_met
  present e p named is at met m = rw (e, ← is, ← at, ← m) (go met)
    where
      go : (x : Bool) → not x ≡ pick x false true
      go true = refl
      go false = refl
