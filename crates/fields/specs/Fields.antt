-- What a field's function leaves: words v that were w, a row q that was r, and an answer that is the form's.
use Rattle.std.specs.Prelude.{Option, Some, None}
use Rattle.std.specs.Prelude.{ℕ, ◌≤◌, ◌≡◌, ◌≢◌, List, eqb}
use Rattle.numbers.specs.Number.{pick}
use Rattle.numbers.specs.Limits.{max_clock}
use Rattle.text.specs.declared.Part.{Part}
use Rattle.text.specs.declared.Units.{Units}
use Rattle.grammar.specs.Grammar.{Number, left_clock, right_clock}
use Rattle.grammar.specs.Course as course
use Rattle.decoder.specs.Line.{up_to, bytes_at}
use Rattle.decoder.specs.States.{Texts, State}
use Rattle.decoder.specs.Columned.{onto, from_texts}
use Rattle.cells.specs.Cells.{at_in, texts_in, state_in, why_in, Small, Elsewhere, Beside, part_in, given, DifferenceDrawn}

-- the clock whose column is k: 2 of a left id, 3 of a right one
unfoldable pub clock_at : ℕ → Number
clock_at k = pick (eqb k 2) left_clock right_clock

abbrev pub Narrow : ℕ → Type 0
Narrow k = (2 ≤ k) × (k ≤ 3)

-- a number d
abbrev pub Given : List ℕ → List ℕ → Option ℕ → course.Drawn State (ℕ × ℕ) → Type 0
Given w v r d = Small v × (given v r ≡ d)

-- the next value of difference column k, or in form 1 a clock in line
abbrev pub Rising : ℕ → List ℕ → ℕ → List ℕ → List ℕ → Option ℕ → Type 0
Rising form u k w v r = (form ≡ 1 → Given w v r (onto (state_in w) (up_to max_clock u (at_in w)))) × (form ≢ 1 → DifferenceDrawn u k w v r)

-- the part in words k and k + 1 of the row
unfoldable pub part_given : ℕ → List ℕ → List ℕ → Option (Unit {0}) → course.Drawn State Part
part_given k v q (Some tt) = course.got (part_in q k) (state_in v)
part_given k v q None = course.not (why_in v)

abbrev pub PartGiven : List ℕ → ℕ → List ℕ → List ℕ → List ℕ → List ℕ → Option (Unit {0}) → Type 0
PartGiven u k w v r q f = Small v × Beside k r q × (part_given k v q f ≡ onto (state_in w) (bytes_at u (at_in w)))

-- the same of any draw d that gives a part
abbrev pub WordGiven : ℕ → List ℕ → List ℕ → List ℕ → List ℕ → Option (Unit {0}) → course.Drawn State Part → Type 0
WordGiven k w v r q f d = Small v × Beside k r q × (part_given k v q f ≡ d)

unfoldable pub text_given : ℕ → List ℕ → List ℕ → Option ℕ → course.Drawn State (Part × Units)
text_given k v q (Some n) = course.got (part_in q k, record { 0 = n }) (state_in v)
text_given k v q None = course.not (why_in v)

-- a text d
abbrev pub TextGiven : ℕ → List ℕ → List ℕ → List ℕ → List ℕ → Option ℕ → course.Drawn State (Part × Units) → Type 0
TextGiven k w v r q a d = Small v × Beside k r q × (text_given k v q a ≡ d)

-- ---- a draw from the text column

-- its answer: the part in words k and k + 1 of the row q, the units given
unfoldable pub texts_given : List ℕ → List ℕ → ℕ → Option ℕ → course.Drawn Texts (Part × Units)
texts_given v q k (Some n) = course.got (part_in q k, record { 0 = n }) (texts_in v 5)
texts_given v q k None = course.not (why_in v)

-- the part goes to words k and k + 1 of the row, which was r and is q
abbrev pub TextDrawn : List ℕ → ℕ → List ℕ → List ℕ → List ℕ → List ℕ → Option ℕ → Type 0
TextDrawn u k w v r q d = Small v × Elsewhere 5 w v × Beside k r q × (texts_given v q k d ≡ from_texts u (texts_in w 5) (λ c. c))
