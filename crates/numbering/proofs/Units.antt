-- The units of a text that has no bytes.
use Prim.Native.Nat.{ℕ}
use mathlib.Core.Path.{◌≡◌, refl}
use mathlib.Core.Bool.{Bool, true, false}
use mathlib.Core.List.{List, [], ◌∷◌}
use native.Mathlib.Omega.{arith}
use lib.ListN.{length}
use Rattle.numbers.specs.Number.{pick}
use Rattle.text.specs.declared.Units.{Units}
use Rattle.text.specs.Utf8.{counted_in, well_formed, units_of, widths, chars, chars_from}

abbrev no_units : Units
no_units = record { 0 = 0 }

pub units-none : (b : List ℕ) → length b ≡ 0 → no_units ≡ (counted_in b).units
unfolding counted_in units_of widths chars chars_from
units-none [] e = go (well_formed [])
  where
    go : (t : Bool) → no_units ≡ record { 0 = pick t 0 0 }
    go true = refl
    go false = refl
units-none (x ∷ b) e = absurd (omega arith)
