-- How the column of texts is written: the bytes of all of them, led by their length, and a column of their units.
use Rattle.std.specs.Prelude.{ℕ, Bool, true, false, not, List, [], ◌∷◌, ◌++◌, eqb, length, drop}
use Rattle.numbers.specs.Number.{unsigned}
use Rattle.text.specs.declared.Taken.TheVariants.{Took, Refused}
use Rattle.text.specs.Utf8.{well_formed, take_units}
use Rattle.meaning.specs.Reads.{when◌then◌else◌}
use Rattle.meaning.specs.Columns.{numbers}
use Rattle.meaning_written.specs.Columns.{column, why}

unfoldable pub text_column : List ℕ → List ℕ → List ℕ
text_column t us = unsigned (length t) ++ t ++ column numbers us

-- the texts of these units are there, one after the other
unfoldable pub takes_all : List ℕ → List ℕ → Bool
takes_all t [] = true
takes_all t (u ∷ us) = elim (take_units 7 u t) [ Took b ↦ takes_all (drop b.0 t) us | Refused why ↦ false ]

unfoldable pub why_texts : List ℕ → List ℕ → ℕ
why_texts t us = when not (well_formed t) then 6 else when not (eqb (why numbers us) 0) then 3 else when not (takes_all t us) then 7 else 0
