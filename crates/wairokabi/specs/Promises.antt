-- The promise of each public call: its refusal and values, and the final contents of what was lent, as an equation of the inputs.
use Rattle.std.specs.Prelude.{ℕ, ◌≡◌, List, Bool, true, false, ltb, length, drop}
use Rattle.numbers.specs.declared.Read.{Read}
use Rattle.numbers.specs.declared.Read.TheVariants.{Number, Refused}
use Rattle.numbers.specs.declared.Signed as numbers-signed
use Rattle.numbers.specs.declared.Signed.TheVariants.{Value, Wrong}
use Rattle.numbers.specs.declared.Written.{Written}
use Rattle.numbers.specs.Number.{pick, none, read_unsigned, read_signed, unsigned, signed}
use Rattle.numbers.specs.Limits.{max_unsigned, max_signed}
use Rattle.numbers.specs.Output.{written, put}
use Rattle.text.specs.declared.Units.{Units}
use Rattle.text.specs.declared.Taken.{Taken}
use Rattle.text.specs.declared.Taken.TheVariants as taken
use Rattle.text.specs.Utf8.{well_formed, units_in, take_units}
use Rattle.runs.specs.declared.ColumnKind.TheVariants as column
use Rattle.runs.specs.Runs.{column_of, why_of}
use Rattle.columns.specs.declared.number.Place as number-place
use Rattle.columns.specs.declared.number.Answer as number-answer
use Rattle.columns.specs.declared.number.Answer.TheVariants as number
use Rattle.columns.specs.Number as numbers
use Rattle.columns.specs.declared.difference.Place as difference-place
use Rattle.columns.specs.declared.difference.Answer as difference-answer
use Rattle.columns.specs.declared.difference.Answer.TheVariants as difference
use Rattle.columns.specs.Difference as differences
use Rattle.columns.specs.declared.byte.Place as byte-place
use Rattle.columns.specs.declared.byte.Answer as byte-answer
use Rattle.columns.specs.declared.byte.Answer.TheVariants as byte
use Rattle.columns.specs.Byte as bytes
use Rattle.string.specs.declared.Place as string-place
use Rattle.string.specs.declared.Opened as string-opened
use Rattle.string.specs.declared.Opened.TheVariants as opened
use Rattle.string.specs.declared.Answer as string-answer
use Rattle.string.specs.declared.Answer.TheVariants as string
use Rattle.string.specs.String as strings
use Rattle.vector.specs.declared.Vector.{Vector}
use Rattle.vector.specs.Vector.{vector_of, vector_answer, vector_words}
use Rattle.wairokabi.specs.declared.Unsigned.{Unsigned}
use Rattle.wairokabi.specs.declared.Signed.{Signed}
use Rattle.wairokabi.specs.declared.Counted.{Counted}
use Rattle.wairokabi.specs.declared.Cut.{Cut}
use Rattle.wairokabi.specs.declared.NumberNext.{NumberNext}
use Rattle.wairokabi.specs.declared.DifferenceNext.{DifferenceNext}
use Rattle.wairokabi.specs.declared.ByteNext.{ByteNext}
use Rattle.wairokabi.specs.declared.TextOpened.{TextOpened}
use Rattle.wairokabi.specs.declared.TextNext.{TextNext}

-- ---- numbers: of each case of an answer, its refusal and values

unfoldable pub unsigned_answer : Read → Unsigned
unsigned_answer (Number v e) = record { refusal = none; value = v; next = e }
unsigned_answer (Refused why) = record { refusal = why; value = 0; next = 0 }

abbrev pub ReadUnsigned : List ℕ → ℕ → Unsigned → Type 0
ReadUnsigned s at r = r ≡ unsigned_answer (read_unsigned s at)

unfoldable pub signed_answer : numbers-signed.Signed → Signed
signed_answer (Value m v e) = record { refusal = none; minus = m; magnitude = v; next = e }
signed_answer (Wrong why) = record { refusal = why; minus = false; magnitude = 0; next = 0 }

abbrev pub ReadSigned : List ℕ → ℕ → Signed → Type 0
ReadSigned s at r = r ≡ signed_answer (read_signed s at)

-- a writer of the bytes b that refuses by `why`, into what is lent: its answer r, and what x is then lent back
abbrev pub Writes : ℕ → List ℕ → List ℕ → Written → List ℕ → Type 0
Writes why b lent r x = (r ≡ written why (length lent) b) × (x ≡ put why (length lent) b)

unfoldable pub why_over : ℕ → ℕ → ℕ
why_over limit v = pick (ltb limit v) 3 0

abbrev pub WriteUnsigned : List ℕ → ℕ → Written → List ℕ → Type 0
WriteUnsigned lent v r x = Writes (why_over max_unsigned v) (unsigned v) lent r x

abbrev pub WriteSigned : List ℕ → Bool → ℕ → Written → List ℕ → Type 0
WriteSigned lent m v r x = Writes (why_over max_signed v) (signed m v) lent r x

-- ---- text

unfoldable pub count_answer : Bool → Units → Counted
count_answer true u = record { number = 0; units = u }
count_answer false u = record { number = 6; units = record { 0 = 0 } }

abbrev pub CountUnits : List ℕ → Counted → Type 0
CountUnits t r = r ≡ count_answer (well_formed t) (units_in t)

abbrev pub refused_cut : ℕ → Cut
refused_cut why = record { number = why; bytes = record { 0 = 0 } }

unfoldable pub cut_answer : Taken → Cut
cut_answer (taken.Took b) = record { number = 0; bytes = b }
cut_answer (taken.Refused why) = refused_cut why

abbrev pub TakeText : List ℕ → ℕ → Units → Cut → Type 0
TakeText t at u r = r ≡ cut_answer (take_units 7 u.0 (drop at t))

abbrev pub CutText : List ℕ → Units → Cut → Type 0
CutText t u r = r ≡ cut_answer (pick (well_formed t) (take_units 9 u.0 t) (taken.Refused 6))

-- ---- columns, read: a refused read gives back the place

abbrev pub OpenNumbers : ℕ → number-place.Place → Type 0
OpenNumbers at r = r ≡ numbers.start_at at

unfoldable pub number_answer : number-place.Place → number-answer.Answer → NumberNext
number_answer c (number.Next v d) = record { refusal = none; value = v; place = d }
number_answer c (number.Bad why) = record { refusal = why; value = 0; place = c }

abbrev pub NextNumber : List ℕ → number-place.Place → NumberNext → Type 0
NextNumber s c r = r ≡ number_answer c (numbers.next_number s c)

abbrev pub OpenDifferences : ℕ → difference-place.Place → Type 0
OpenDifferences at r = r ≡ differences.start_at at

unfoldable pub difference_answer : difference-place.Place → difference-answer.Answer → DifferenceNext
difference_answer c (difference.Next v d) = record { refusal = none; value = v; place = d }
difference_answer c (difference.Bad why) = record { refusal = why; value = 0; place = c }

abbrev pub NextDifference : List ℕ → difference-place.Place → DifferenceNext → Type 0
NextDifference s c r = r ≡ difference_answer c (differences.next_difference s c)

abbrev pub OpenBytes : ℕ → byte-place.Place → Type 0
OpenBytes at r = r ≡ bytes.start_at at

unfoldable pub byte_answer : byte-place.Place → byte-answer.Answer → ByteNext
byte_answer c (byte.Next v d) = record { refusal = none; value = v; place = d }
byte_answer c (byte.Bad why) = record { refusal = why; value = 0; place = c }

abbrev pub NextByte : List ℕ → byte-place.Place → ByteNext → Type 0
NextByte s c r = r ≡ byte_answer c (bytes.next_byte s c)

-- where a refused opening stands: at the end of the column, so that every read from there says 1
abbrev pub shut : List ℕ → string-place.Place
shut s = strings.place_at (length s) (length s) (numbers.start_at (length s))

unfoldable pub open_answer : List ℕ → string-opened.Opened → TextOpened
open_answer s (opened.At c) = record { refusal = none; place = c }
open_answer s (opened.Not why) = record { refusal = why; place = shut s }

abbrev pub OpenText : List ℕ → ℕ → TextOpened → Type 0
OpenText s at r = r ≡ open_answer s (strings.open_text s at)

unfoldable pub text_answer : string-place.Place → string-answer.Answer → TextNext
text_answer c (string.Next p d) = record { refusal = none; part = p; place = d }
text_answer c (string.Bad why) = record { refusal = why; part = record { place = 0; bytes = record { 0 = 0 } }; place = c }

abbrev pub NextText : List ℕ → string-place.Place → TextNext → Type 0
NextText s c r = r ≡ text_answer c (strings.next_text s c)

-- ---- columns, written

abbrev pub WriteNumbers : List ℕ → List ℕ → Written → List ℕ → Type 0
WriteNumbers lent vs r x = Writes (why_of column.Number vs) (column_of column.Number vs) lent r x

abbrev pub WriteDifferences : List ℕ → List ℕ → Written → List ℕ → Type 0
WriteDifferences lent vs r x = Writes (why_of column.Difference vs) (column_of column.Difference vs) lent r x

abbrev pub WriteBytes : List ℕ → List ℕ → Written → List ℕ → Type 0
WriteBytes lent vs r x = Writes (why_of column.Byte vs) (column_of column.Byte vs) lent r x

abbrev pub WriteTexts : List ℕ → List ℕ → List ℕ → Written → List ℕ → Type 0
WriteTexts lent t us r x = Writes (strings.why_texts t us) (strings.text_column t us) lent r x

-- ---- state vectors

abbrev pub ReadStateVector : List ℕ → List ℕ → Vector → List ℕ → Type 0
ReadStateVector v lent r x = (r ≡ vector_answer (length lent) (vector_of v)) × (x ≡ vector_words (length lent) (vector_of v))
