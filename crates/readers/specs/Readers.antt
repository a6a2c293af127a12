-- Column readers, over what the four columns mean: where a reader begins, and what a read gives and leaves.
use Rattle.std.specs.Prelude.{ℕ, List, length}
use Rattle.std.specs.Borrow.{Bor}
use Rattle.numbers.specs.declared.Refusal.{Refusal}
use Rattle.numbers.specs.Number.{none}
use Rattle.text.specs.declared.Part.{Part}
use Rattle.columns.specs.declared.number.Place as number-place
use Rattle.columns.specs.declared.number.Answer as number-answer
use Rattle.columns.specs.declared.number.Answer.TheVariants as number
use Rattle.columns.specs.Number as numbers
use Rattle.columns.specs.declared.difference.Place as difference-place
use Rattle.columns.specs.declared.difference.Answer as difference-answer
use Rattle.columns.specs.declared.difference.Answer.TheVariants as difference
use Rattle.columns.specs.Difference as differences
use Rattle.columns.specs.declared.byte.Place as byte-place
use Rattle.columns.specs.declared.byte.Answer as byte-answer
use Rattle.columns.specs.declared.byte.Answer.TheVariants as byte
use Rattle.columns.specs.Byte as bytes
use Rattle.string.specs.declared.Place as string-place
use Rattle.string.specs.declared.Opened as string-opened
use Rattle.string.specs.declared.Opened.TheVariants as opening
use Rattle.string.specs.declared.Answer as string-answer
use Rattle.string.specs.declared.Answer.TheVariants as string
use Rattle.string.specs.String as strings
use Rattle.readers.specs.declared.Kind.{Kind}
use Rattle.readers.specs.declared.Kind.TheVariants as kind
use Rattle.readers.specs.declared.Place.{Place}
use Rattle.readers.specs.declared.Place.TheVariants.{Number, Difference, Byte, Text}
use Rattle.readers.specs.declared.Column.{Column}
use Rattle.readers.specs.declared.Answer.{Answer}
use Rattle.readers.specs.declared.Start.{Start}
use Rattle.readers.specs.declared.Step.{Step}

-- ---- opening: before the column's first value; a text column is opened first, and refused it stands at its end, so that every read says 1

abbrev pub shut : List ℕ → string-place.Place
shut s = strings.place_at (length s) (length s) (numbers.start_at (length s))

unfoldable pub text_start : List ℕ → string-opened.Opened → Start
text_start s (opening.At c) = record { refusal = none; place = Text c }
text_start s (opening.Not why) = record { refusal = why; place = Text (shut s) }

unfoldable pub start_of : List ℕ → Kind → Start
start_of s kind.Number = record { refusal = none; place = Number (numbers.start_at 0) }
start_of s kind.Difference = record { refusal = none; place = Difference (differences.start_at 0) }
start_of s kind.Byte = record { refusal = none; place = Byte (bytes.start_at 0) }
start_of s kind.Text = text_start s (strings.open_text s 0)

-- ---- reading: of each case of a column's answer, its refusal and values, and the place after; refused, the place before

abbrev pub no_part : Part
no_part = record { place = 0; bytes = record { 0 = 0 } }

abbrev pub valued : ℕ → Answer
valued v = record { refusal = none; value = v; part = no_part }

abbrev pub texted : Part → Answer
texted p = record { refusal = none; value = 0; part = p }

abbrev pub refused : Refusal → Answer
refused why = record { refusal = why; value = 0; part = no_part }

unfoldable pub number_step : number-place.Place → number-answer.Answer → Step
number_step c (number.Next v d) = record { place = Number d; answer = valued v }
number_step c (number.Bad why) = record { place = Number c; answer = refused why }

unfoldable pub difference_step : difference-place.Place → difference-answer.Answer → Step
difference_step c (difference.Next v d) = record { place = Difference d; answer = valued v }
difference_step c (difference.Bad why) = record { place = Difference c; answer = refused why }

unfoldable pub byte_step : byte-place.Place → byte-answer.Answer → Step
byte_step c (byte.Next v d) = record { place = Byte d; answer = valued v }
byte_step c (byte.Bad why) = record { place = Byte c; answer = refused why }

unfoldable pub text_step : string-place.Place → string-answer.Answer → Step
text_step c (string.Next p d) = record { place = Text d; answer = texted p }
text_step c (string.Bad why) = record { place = Text c; answer = refused why }

unfoldable pub step_of : List ℕ → Place → Step
step_of s (Number c) = number_step c (numbers.next_number s c)
step_of s (Difference c) = difference_step c (differences.next_difference s c)
step_of s (Byte c) = byte_step c (bytes.next_byte s c)
step_of s (Text c) = text_step c (strings.next_text s c)

-- ---- readers

abbrev pub reader : Bor (List ℕ) → Place → Column
reader s c = record { bytes = s; place = c }

-- what the next read gives, and the reader after it
unfoldable pub answer_of : Column → Answer
answer_of c = (step_of c.bytes.now c.place).answer

unfoldable pub after : Column → Column
after c = reader c.bytes (step_of c.bytes.now c.place).place
