-- Which values a column writer does not refuse: within the column's limit, at most as many as a run can count, and differences that are near.
use Prim.Native.Nat.{ℕ, ◌+◌, ◌≤◌}
use mathlib.Core.Path.{◌≡◌, refl}
use mathlib.Core.Bool.{true}
use mathlib.Core.List.{List, [], ◌∷◌}
use native.Mathlib.Omega.{arith}
use lib.Dec.{eqb}
use lib.ListN.{length}
use borrow.Author.Tests.{le-leb}
use Rattle.numbers.specs.Limits.{max_value, max_clock, max_count}
use Rattle.runs.specs.declared.ColumnKind.TheVariants.{Number, Difference, Byte}
use Rattle.runs.specs.Runs.{Coding, within, over_fits, storable, spellable, why, fits_less_two, fits_less_one, coding}
use Rattle.readings.proofs.Columns.{chosen}

-- counts up to m can be stored
abbrev Stores : Coding → ℕ → Type 0
Stores c m = (n : ℕ) → n ≤ m → (c.fits n ≡ true) × (c.last_fits n ≡ true)

-- no run is longer than the values are many
module _ (c : Coding) (m : ℕ) (s : Stores c m) where
  over-fits : (vs : List ℕ) (p k n : ℕ) → n + length vs ≤ m → over_fits c p k n vs ≡ true
  unfolding over_fits
  over-fits [] p k n h = (s n (omega arith)).1
  over-fits (v ∷ vs) p k n h =
      rw (s n (omega arith)).0
      (chosen (λ x. x ≡ true) (eqb (c.key_of p v) k) (λ e. over-fits vs v k (n + 1) (omega arith)) (λ e. over-fits vs v (c.key_of p v) 0 (omega arith)))

  all-storable : (vs : List ℕ) → length vs ≤ m → storable c 0 vs ≡ true
  unfolding storable
  all-storable [] h = refl
  all-storable (v ∷ vs) h = over-fits vs v (c.key_of 0 v) 0 (omega arith)

all-spellable : (c : Coding) → ((k : ℕ) → c.near k ≡ true) → (vs : List ℕ) (p : ℕ) → spellable c p vs ≡ true
unfolding spellable
all-spellable c near [] p = refl
all-spellable c near (v ∷ vs) p = rw (near (c.key_of p v)) (all-spellable c near vs v)

module _ (vs : List ℕ) (l : length vs ≤ max_count) where
  pub number-why : within max_value vs ≡ true → why (coding Number) vs ≡ 0
  unfolding why coding fits_less_two
  number-why w = rw (w, all-storable (coding Number) max_count fits vs l, all-spellable (coding Number) (λ k. refl) vs 0)
    where
      fits : Stores (coding Number) max_count
      fits n h = (le-leb n 2147483646 (omega arith), le-leb n 2147483646 (omega arith))

  pub difference-why : within max_clock vs ≡ true → spellable (coding Difference) 0 vs ≡ true → why (coding Difference) vs ≡ 0
  unfolding why coding fits_less_two
  difference-why w near = rw (w, all-storable (coding Difference) max_count fits vs l, near)
    where
      fits : Stores (coding Difference) max_count
      fits n h = (le-leb n 2147483646 (omega arith), le-leb n 2147483646 (omega arith))

  pub byte-why : within 255 vs ≡ true → why (coding Byte) vs ≡ 0
  unfolding why coding fits_less_one
  byte-why w = rw (w, all-storable (coding Byte) max_count fits vs l, all-spellable (coding Byte) (λ k. refl) vs 0)
    where
      fits : Stores (coding Byte) max_count
      fits n h = (le-leb n max_count h, refl)
