-- The text column: byte length, UTF-8 bytes, then a number column of unit lengths. A text takes whole characters until its units are used.
use Rattle.std.specs.Prelude.{ℕ, ◌+◌, ◌-◌, List, [], ◌∷◌, ◌++◌, Bool, true, false, ltb, eqb, length, drop}
use Rattle.std.proofs.Math.Seq.{slice}
use Rattle.numbers.specs.declared.Read.{Read}
use Rattle.numbers.specs.declared.Read.TheVariants as read
use Rattle.numbers.specs.Number.{pick, read_unsigned, unsigned}
use Rattle.text.specs.declared.Taken.{Taken}
use Rattle.text.specs.declared.Taken.TheVariants as units
use Rattle.text.specs.Utf8.{well_formed, take_units}
use Rattle.columns.specs.declared.number.Place as number-place
use Rattle.columns.specs.declared.number.Answer as number-answer
use Rattle.columns.specs.declared.number.Answer.TheVariants as number
use Rattle.string.specs.declared.Place.{Place}
use Rattle.string.specs.declared.Opened.{Opened}
use Rattle.string.specs.declared.Opened.TheVariants.{At, Not}
use Rattle.string.specs.declared.Answer.{Answer}
use Rattle.string.specs.declared.Answer.TheVariants.{Next, Bad}
use Rattle.runs.specs.declared.ColumnKind.TheVariants.{Number}
use Rattle.columns.specs.Number.{start_at, next_number}
use Rattle.runs.specs.Runs.{column_of, why_of}

-- the next text begins at `at`, all texts end at `end`, and the next unit length is at `units`
abbrev pub place_at : ℕ → ℕ → number-place.Place → Place
place_at at end units = record { at = at; end = end; units = units }

-- ---- opening: the text's length, its bytes, and their UTF-8

unfoldable pub opened : List ℕ → Read → Opened
opened s (read.Refused why) = Not why
opened s (read.Number n e) =
    pick (ltb (length s - e) n) (Not (record { number = 1; place = length s }))
    (pick (well_formed (slice e (e + n) s)) (At (place_at e (e + n) (start_at (e + n)))) (Not (record { number = 6; place = e })))

unfoldable pub open_text : List ℕ → ℕ → Opened
open_text s at = opened s (read_unsigned s at)

-- ---- the next text: its unit length, then its characters

-- where the bytes of the text at `at` end, or that its units run past the texts or end in a pair
unfoldable pub text_ending : ℕ → ℕ → number-place.Place → Taken → Answer
text_ending at end rest (units.Took b) = Next (record { place = at; bytes = b }) (place_at (at + b.0) end rest)
text_ending at end rest (units.Refused why) = Bad (record { number = why; place = at })

unfoldable pub units_taken : List ℕ → ℕ → ℕ → ℕ → number-place.Place → Answer
units_taken s at end u rest = text_ending at end rest (take_units 7 u (slice at end s))

unfoldable pub units_drawn : List ℕ → ℕ → ℕ → number-answer.Answer → Answer
units_drawn s at end (number.Next u rest) = units_taken s at end u rest
units_drawn s at end (number.Bad why) = Bad why

unfoldable pub next_text : List ℕ → Place → Answer
next_text s c = units_drawn s c.at c.end (next_number s c.units)

-- ---- writing

-- whether the texts of these units are there, one after the other
unfoldable pub takes_more : Taken → (ℕ → Bool) → Bool
takes_more (units.Took b) f = f b.0
takes_more (units.Refused why) f = false

unfoldable pub takes_all : List ℕ → List ℕ → Bool
takes_all t [] = true
takes_all t (u ∷ us) = takes_more (take_units 7 u t) (λ k. takes_all (drop k t) us)

unfoldable pub text_head : List ℕ → List ℕ
text_head t = unsigned (length t) ++ t

-- the text whole, left-over characters kept, and its unit lengths
unfoldable pub text_column : List ℕ → List ℕ → List ℕ
text_column t us = text_head t ++ column_of Number us

-- 6, 3, 7
unfoldable pub why_texts : List ℕ → List ℕ → ℕ
why_texts t us = pick (well_formed t) (pick (eqb (why_of Number us) 0) (pick (takes_all t us) 0 7) 3) 6
