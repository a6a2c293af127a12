-- The promise of each public call: its answer, and what is lent back, the values with zeros behind them, as equations of the inputs.
use Rattle.std.specs.Prelude.{ℕ, ◌/◌, ◌≡◌, List, length}
use Rattle.numbers.specs.Output.{padded}
use Rattle.text.specs.declared.Part.{Part}
use Rattle.columns.specs.declared.number.Place as number-place
use Rattle.columns.specs.declared.difference.Place as difference-place
use Rattle.columns.specs.declared.byte.Place as byte-place
use Rattle.string.specs.declared.Place as string-place
use Rattle.bulk.specs.declared.NumbersRead.{NumbersRead}
use Rattle.bulk.specs.declared.DifferencesRead.{DifferencesRead}
use Rattle.bulk.specs.declared.BytesRead.{BytesRead}
use Rattle.bulk.specs.declared.TextsRead.{TextsRead}
use Rattle.bulk.specs.Bulk.{Bulk, told, draw_numbers, draw_differences, draw_bytes, draw_texts, part_words}

unfoldable pub numbers_answer : Bulk ℕ number-place.Place → NumbersRead
numbers_answer b = record { refusal = told b; count = length b.values; place = b.place }

abbrev pub ReadNumbers : List ℕ → number-place.Place → List ℕ → NumbersRead → List ℕ → Type 0
ReadNumbers s c lent r x = (r ≡ numbers_answer (draw_numbers (length lent) s c)) × (x ≡ padded (length lent) (draw_numbers (length lent) s c).values)

unfoldable pub differences_answer : Bulk ℕ difference-place.Place → DifferencesRead
differences_answer b = record { refusal = told b; count = length b.values; place = b.place }

abbrev pub ReadDifferences : List ℕ → difference-place.Place → List ℕ → DifferencesRead → List ℕ → Type 0
ReadDifferences s c lent r x =
    (r ≡ differences_answer (draw_differences (length lent) s c)) × (x ≡ padded (length lent) (draw_differences (length lent) s c).values)

unfoldable pub bytes_answer : Bulk ℕ byte-place.Place → BytesRead
bytes_answer b = record { refusal = told b; count = length b.values; place = b.place }

abbrev pub ReadBytes : List ℕ → byte-place.Place → List ℕ → BytesRead → List ℕ → Type 0
ReadBytes s c lent r x = (r ≡ bytes_answer (draw_bytes (length lent) s c)) × (x ≡ padded (length lent) (draw_bytes (length lent) s c).values)

unfoldable pub texts_answer : Bulk Part string-place.Place → TextsRead
texts_answer b = record { refusal = told b; count = length b.values; place = b.place }

-- a text takes two words, so half as many texts as words, rounded down, have room
abbrev pub ReadTexts : List ℕ → string-place.Place → List ℕ → TextsRead → List ℕ → Type 0
ReadTexts s c lent r x =
    (r ≡ texts_answer (draw_texts (length lent / 2) s c)) × (x ≡ padded (length lent) (part_words (draw_texts (length lent / 2) s c).values))
