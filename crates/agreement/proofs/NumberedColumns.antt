-- Numbers and columns: what is refused has a number from 1 to 8.
use Prim.Native.Nat.{ℕ, ◌+◌, ◌-◌, ◌%◌}
use mathlib.Core.Bool.{Bool}
use mathlib.Core.List.{List, [], ◌∷◌}
use native.Mathlib.Omega.{arith}
use lib.Dec.{ltb, leb, eqb}
use lib.ListN.{length}
use lib.Seq.{slice}
use Rattle.numbers.specs.declared.Read.{Read}
use Rattle.numbers.specs.declared.Read.TheVariants.{Number, Refused}
use Rattle.numbers.specs.declared.Signed.{Signed}
use Rattle.numbers.specs.declared.Signed.TheVariants.{Value, Wrong}
use Rattle.numbers.specs.Number.{Spelt, got, short, long, answer_at, read_unsigned, with_sign, read_signed}
use Rattle.numbers.specs.Limits.{max_value, max_clock, max_count}
use Rattle.text.specs.declared.State as text-state
use Rattle.text.specs.declared.Taken.{Taken}
use Rattle.text.specs.declared.Taken.TheVariants as units
use Rattle.text.specs.Utf8.{well_formed, next, gain, start, take_from, take_units}
use Rattle.runs.specs.Difference.{zero_key}
use Rattle.columns.specs.declared.number.Place as number-place
use Rattle.columns.specs.declared.number.Answer as number-answer
use Rattle.columns.specs.declared.number.Answer.TheVariants as number
use Rattle.columns.specs.declared.difference.Place as difference-place
use Rattle.columns.specs.declared.difference.Answer as difference-answer
use Rattle.columns.specs.declared.difference.Answer.TheVariants as difference
use Rattle.columns.specs.declared.byte.Place as byte-place
use Rattle.columns.specs.declared.byte.Answer as byte-answer
use Rattle.columns.specs.declared.byte.Answer.TheVariants as byte
use Rattle.string.specs.declared.Place as string-place
use Rattle.string.specs.declared.Answer as string-answer
use Rattle.string.specs.declared.Answer.TheVariants as string
use Rattle.string.specs.declared.Opened as string-opened
use Rattle.string.specs.declared.Opened.TheVariants as strings-opened
use Rattle.columns.specs.Number as numbers
use Rattle.columns.specs.Difference as differences
use Rattle.columns.specs.Byte as bytes
use Rattle.string.specs.String as strings
use Rattle.pieces.proofs.Forgets.{chosen}
use Rattle.agreement.specs.Numbered.{Low}

-- the numbers that are written down
pub low1 : Low 1
low1 = (omega arith, omega arith)

low2 : Low 2
low2 = (omega arith, omega arith)

pub low3 : Low 3
low3 = (omega arith, omega arith)

pub low6 : Low 6
low6 = (omega arith, omega arith)

low7 : Low 7
low7 = (omega arith, omega arith)

-- ---- a number in line

abbrev pub NumberedRead : Read → Type 0
NumberedRead (Number v e) = Unit {0}
NumberedRead (Refused why) = Low why.number

abbrev NumberedSigned : Signed → Type 0
NumberedSigned (Value m v e) = Unit {0}
NumberedSigned (Wrong why) = Low why.number

placed-numbered : (s : List ℕ) (at : ℕ) (x : Spelt) → NumberedRead (answer_at s at x)
unfolding answer_at
placed-numbered s at (got v e) = tt
placed-numbered s at short = low1
placed-numbered s at long = low2

pub unsigned-numbered : (s : List ℕ) (at : ℕ) → NumberedRead (read_unsigned s at)
unfolding read_unsigned
unsigned-numbered s at = placed-numbered s at _

with-sign-numbered : (m : Bool) (x : Read) → NumberedRead x → NumberedSigned (with_sign m x)
unfolding with_sign
with-sign-numbered m (Number v e) h = tt
with-sign-numbered m (Refused why) h = h

signed-numbered : (s : List ℕ) (at : ℕ) → NumberedSigned (read_signed s at)
unfolding read_signed
signed-numbered s at = with-sign-numbered _ _ (placed-numbered s at _)

-- ---- the number column

abbrev pub NumberedNumber : number-answer.Answer → Type 0
NumberedNumber (number.Next v c) = Unit {0}
NumberedNumber (number.Bad why) = Low why.number

number-drawn : (c : number-place.Place) → NumberedNumber (numbers.drawn c)
unfolding numbers.drawn
number-drawn c = chosen NumberedNumber (ltb max_value c.last) low3 tt

number-counted : (from x e : ℕ) (r : Read) → NumberedRead r → NumberedNumber (numbers.counted from x e r)
unfolding numbers.counted
number-counted from x e (Refused why) h = h
number-counted from x e (Number c f) h = chosen NumberedNumber (ltb max_count c) low3 (number-drawn _)

number-begun : (s : List ℕ) (at : ℕ) (r : Signed) → NumberedSigned r → NumberedNumber (numbers.begun s at r)
unfolding numbers.begun
number-begun s at (Wrong why) h = h
number-begun s at (Value m x e) h = chosen NumberedNumber m (number-counted at x e _ (unsigned-numbered s e)) (number-drawn _)

pub number-numbered : (s : List ℕ) (c : number-place.Place) → NumberedNumber (numbers.next_number s c)
unfolding numbers.next_number
number-numbered s c = chosen NumberedNumber (ltb 0 c.count) (number-drawn c) (number-begun s c.at _ (signed-numbered s c.at))

-- ---- the difference column

abbrev pub NumberedDifference : difference-answer.Answer → Type 0
NumberedDifference (difference.Next v c) = Unit {0}
NumberedDifference (difference.Bad why) = Low why.number

difference-drawn : (c : difference-place.Place) → NumberedDifference (differences.drawn c)
unfolding differences.drawn
difference-drawn c =
    chosen NumberedDifference (ltb (c.last + c.key) zero_key) low3
    (chosen NumberedDifference (ltb max_clock (c.last + c.key - zero_key)) low3 tt)

difference-counted : (from last key e : ℕ) (r : Read) → NumberedRead r → NumberedDifference (differences.counted from last key e r)
unfolding differences.counted
difference-counted from last key e (Refused why) h = h
difference-counted from last key e (Number c f) h = chosen NumberedDifference (ltb max_count c) low3 (difference-drawn _)

difference-begun : (s : List ℕ) (at last : ℕ) (r : Signed) → NumberedSigned r → NumberedDifference (differences.begun s at last r)
unfolding differences.begun
difference-begun s at last (Wrong why) h = h
difference-begun s at last (Value m x e) h =
    chosen NumberedDifference (differences.outside m x) low3
    (chosen NumberedDifference (eqb (x % 2) 0) (difference-drawn _) (difference-counted at last (differences.key_read m x) e _ (unsigned-numbered s e)))

pub difference-numbered : (s : List ℕ) (c : difference-place.Place) → NumberedDifference (differences.next_difference s c)
unfolding differences.next_difference
difference-numbered s c =
    chosen NumberedDifference (ltb 0 c.count) (difference-drawn c) (difference-begun s c.at c.last _ (signed-numbered s c.at))

-- ---- the byte column

abbrev pub NumberedByte : byte-answer.Answer → Type 0
NumberedByte (byte.Next v c) = Unit {0}
NumberedByte (byte.Bad why) = Low why.number

byte-counted : (from b e : ℕ) (r : Read) → NumberedRead r → NumberedByte (bytes.counted from b e r)
unfolding bytes.counted
byte-counted from b e (Refused why) h = h
byte-counted from b e (Number c f) h = chosen NumberedByte (ltb max_count c) low3 tt

byte-begun : (s : List ℕ) (at : ℕ) → NumberedByte (bytes.begun s at)
unfolding bytes.begun
byte-begun s at =
    chosen NumberedByte (leb (length s) at) low1
    (chosen NumberedByte (leb (length s) (at + 1)) tt (byte-counted at _ (at + 1) _ (unsigned-numbered s (at + 1))))

pub byte-numbered : (s : List ℕ) (c : byte-place.Place) → NumberedByte (bytes.next_byte s c)
unfolding bytes.next_byte
byte-numbered s c = chosen NumberedByte c.endless tt (chosen NumberedByte (ltb 0 c.count) tt (byte-begun s c.at))

-- ---- the text column

abbrev pub NumberedTexts : string-opened.Opened → Type 0
NumberedTexts (strings-opened.At c) = Unit {0}
NumberedTexts (strings-opened.Not why) = Low why.number

abbrev pub NumberedString : string-answer.Answer → Type 0
NumberedString (string.Next p c) = Unit {0}
NumberedString (string.Bad why) = Low why.number

opened-numbered : (s : List ℕ) (r : Read) → NumberedRead r → NumberedTexts (strings.opened s r)
unfolding strings.opened
opened-numbered s (Refused why) h = h
opened-numbered s (Number n e) h =
    chosen NumberedTexts (ltb (length s - e) n) low1 (chosen NumberedTexts (well_formed (slice e (e + n) s)) tt low6)

pub texts-numbered : (s : List ℕ) (at : ℕ) → NumberedTexts (strings.open_text s at)
unfolding strings.open_text
texts-numbered s at = opened-numbered s _ (unsigned-numbered s at)

abbrev NumberedTaken : Taken → Type 0
NumberedTaken (units.Took b) = Unit {0}
NumberedTaken (units.Refused why) = Low why

-- units past the texts, and units that end inside a pair, are both 7
take-numbered : (st : text-state.State) (w k : ℕ) (s : List ℕ) → NumberedTaken (take_from 7 st w k s)
unfolding take_from
take-numbered st w k [] = chosen NumberedTaken (eqb w 0) tt low7
take-numbered st w k (b ∷ t) =
    chosen NumberedTaken (eqb w 0) tt
    (chosen NumberedTaken (ltb w (gain (next st b))) low7 (take-numbered (next st b) (w - gain (next st b)) (k + 1) t))

ending-numbered : (at end : ℕ) (rest : number-place.Place) (r : Taken) → NumberedTaken r → NumberedString (strings.text_ending at end rest r)
unfolding strings.text_ending
ending-numbered at end rest (units.Took b) h = tt
ending-numbered at end rest (units.Refused why) h = h

taken-numbered : (s : List ℕ) (at end u : ℕ) (rest : number-place.Place) → NumberedString (strings.units_taken s at end u rest)
unfolding strings.units_taken take_units
taken-numbered s at end u rest = ending-numbered at end rest _ (take-numbered start u 0 (slice at end s))

string-drawn : (s : List ℕ) (at end : ℕ) (r : number-answer.Answer) → NumberedNumber r → NumberedString (strings.units_drawn s at end r)
unfolding strings.units_drawn
string-drawn s at end (number.Next u rest) h = taken-numbered s at end u rest
string-drawn s at end (number.Bad why) h = h

pub string-numbered : (s : List ℕ) (c : string-place.Place) → NumberedString (strings.next_text s c)
unfolding strings.next_text
string-numbered s c = string-drawn s c.at c.end _ (number-numbered s c.units)
