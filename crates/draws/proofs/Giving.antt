-- A column that is cut out of an update gives what was written of it.
use Prim.Native.Nat.{ℕ, ◌+◌, ◌^◌, ◌<◌}
use mathlib.Core.Path.{◌≡◌, refl, subst}
use mathlib.Core.Bool.{true}
use mathlib.Core.List.{List, [], ◌++◌, append-nil}
use native.Mathlib.Omega.{arith}
use lib.ListN.{length, take}
use lib.Seq.{length-take-le}
use Rattle.text.specs.Utf8.{after, settled, well_formed}
use Rattle.runs.specs.declared.ColumnKind.TheVariants.{Number, Difference, Byte}
use Rattle.runs.specs.Runs.{coding, why, column_of}
use Rattle.string.specs.declared.Place as string-place
use Rattle.string.specs.declared.Opened.TheVariants.{At}
use Rattle.columns.specs.Number as numbers
use Rattle.columns.specs.Difference as differences
use Rattle.columns.specs.Byte as bytes
use Rattle.string.specs.String.{open_text, text_column}
use Rattle.string.proofs.Texts.{column-length}
use Rattle.string.proofs.TextTrip.{joined, units_each, Formed, text-legal}
use Rattle.string.proofs.Steps.{GivesNumbers, GivesDifferences, GivesBytes, GivesTexts, number-gives, difference-gives, byte-gives, text-gives}
use Rattle.readings.proofs.Columns.{Within, Opens, text-opens}
use Rattle.draws.proofs.Standing.{front, past-length}
use Rattle.draws.proofs.Opening.{Cut}

-- ---- a column that is cut gives what was written

-- what a column has at the end of a list, it has where it is cut out
module _ {u : List ℕ} {at : ℕ} {c q : List ℕ} (x : Cut u at c q) where
  cut_out : (G : List ℕ → ℕ → Type 0) → ((p : List ℕ) → G (p ++ c) (length p)) → G (take (x.from + length c) u) x.from
  cut_out G g = rw (front u x.from c q x.column) (subst (G (take x.from u ++ c)) (length-take-le x.from u x.column.inside) (g (take x.from u)))

module _ {u : List ℕ} {at : ℕ} {q : List ℕ} (vs : List ℕ) where
  pub numbers-cut : (x : Cut u at (column_of Number vs) q) → why (coding Number) vs ≡ 0
      → GivesNumbers (take (x.from + length (column_of Number vs)) u) (numbers.start_at x.from) vs
  numbers-cut x w = cut_out x (λ s n. GivesNumbers s (numbers.start_at n) vs) (λ p. number-gives p vs w)

  pub differences-cut : (x : Cut u at (column_of Difference vs) q) → why (coding Difference) vs ≡ 0
      → GivesDifferences (take (x.from + length (column_of Difference vs)) u) (differences.start_at x.from) vs
  differences-cut x w = cut_out x (λ s n. GivesDifferences s (differences.start_at n) vs) (λ p. difference-gives p vs w)

  pub bytes_cut : (x : Cut u at (column_of Byte vs) q) → why (coding Byte) vs ≡ 0
      → GivesBytes (take (x.from + length (column_of Byte vs)) u) (bytes.start_at x.from) vs
  bytes_cut x w = cut_out x (λ s n. GivesBytes s (bytes.start_at n) vs) (λ p. byte-gives p vs w)

-- bytes opened as a text column from a place on give these texts
pub record GivesOpened (s : List ℕ) (at : ℕ) (ts : List (List ℕ)) : Type 0 where
  pub place : string-place.Place
  pub opens : open_text s at ≡ At place
  pub within : Within s place
  pub gives : GivesTexts s place ts

none-whole : well_formed [] ≡ true
unfolding well_formed after settled
none-whole = refl

pub texts-cut : {u : List ℕ} {at : ℕ} {q : List ℕ} (ts : List (List ℕ)) → length u < 2 ^ 62 → (x : Cut u at (text_column (joined ts) (units_each ts)) q)
    → Formed ts → why (coding Number) (units_each ts) ≡ 0 → GivesOpened (take (x.from + length (text_column (joined ts) (units_each ts))) u) x.from ts
texts-cut {u} {at} {q} ts l x f w = cut_out x (λ s n. GivesOpened s n ts) go
  where
    few : length (joined ts) < 2 ^ 63
    few = omega (arith, column-length (joined ts) (units_each ts), past-length u x.from (text_column (joined ts) (units_each ts)) q x.column)

    go : (p : List ℕ) → GivesOpened (p ++ text_column (joined ts) (units_each ts)) (length p) ts
    go p =
        let s : List ℕ = p ++ text_column (joined ts) (units_each ts) in
        let none = append-nil (joined ts) in
        let g = text-gives p ts f few (rw none at (text-legal ts [] f none-whole w)) in
        record { place = g.0; opens = g.1; within = subst (Opens s) g.1 (text-opens s (length p)); gives = g.2 }
