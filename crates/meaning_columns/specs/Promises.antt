-- What the public calls on numbers, texts and columns promise. A refused read gives back its place; a text column that is refused stands at its
-- end, so that every read from there says 1.
use Rattle.std.specs.Prelude.{ℕ, zero, suc, ◌*◌, ◌/◌, ◌≡◌, Bool, false, List, [], ◌∷◌, ltb, eqb, length, drop}
use Rattle.std.specs.Borrow.{Bor}
use Rattle.numbers.specs.declared.Refusal.{Refusal}
use Rattle.numbers.specs.declared.Written.{Written}
use Rattle.numbers.specs.Number as spelling
use Rattle.numbers.specs.Number.{none, nowhere}
use Rattle.numbers.specs.Output.{padded, written, put}
use Rattle.text.specs.declared.Part.{Part}
use Rattle.text.specs.declared.Units.{Units}
use Rattle.text.specs.declared.Taken.{Taken}
use Rattle.text.specs.declared.Taken.TheVariants.{Took, Refused}
use Rattle.text.specs.Utf8.{well_formed, take_units}
use Rattle.columns.specs.declared.number.Place as number
use Rattle.columns.specs.declared.difference.Place as difference
use Rattle.columns.specs.declared.byte.Place as byte
use Rattle.string.specs.declared.Place as string
use Rattle.vector.specs.declared.Vector.{Vector}
use Rattle.vector.specs.Vector.{Entry, words_in}
use Rattle.wairokabi.specs.declared.Unsigned.{Unsigned}
use Rattle.wairokabi.specs.declared.Signed.{Signed}
use Rattle.wairokabi.specs.declared.Counted.{Counted}
use Rattle.wairokabi.specs.declared.Cut.{Cut}
use Rattle.wairokabi.specs.declared.NumberNext.{NumberNext}
use Rattle.wairokabi.specs.declared.DifferenceNext.{DifferenceNext}
use Rattle.wairokabi.specs.declared.ByteNext.{ByteNext}
use Rattle.wairokabi.specs.declared.TextOpened.{TextOpened}
use Rattle.wairokabi.specs.declared.TextNext.{TextNext}
use Rattle.readers.specs.declared.Kind.{Kind}
use Rattle.readers.specs.declared.Kind.TheVariants as kind
use Rattle.readers.specs.declared.Place.{Place}
use Rattle.readers.specs.declared.Place.TheVariants.{Number, Difference, Byte, Text}
use Rattle.readers.specs.declared.Column.{Column}
use Rattle.readers.specs.declared.Opened.{Opened}
use Rattle.readers.specs.declared.Answer.{Answer}
use Rattle.readers.specs.declared.Start.{Start}
use Rattle.readers.specs.declared.Step.{Step}
use Rattle.bulk.specs.declared.NumbersRead.{NumbersRead}
use Rattle.bulk.specs.declared.DifferencesRead.{DifferencesRead}
use Rattle.bulk.specs.declared.BytesRead.{BytesRead}
use Rattle.bulk.specs.declared.TextsRead.{TextsRead}
use Rattle.meaning.specs.Reads.{when◌then◌else◌, Got, got, refused, on}
use Rattle.meaning.specs.Line.{part, units, unsigned, signed}
use Rattle.meaning.specs.Reads.{comes_to}
use Rattle.meaning.specs.Vector.{vector}
use Rattle.meaning.specs.Columns as columns
use Rattle.meaning_written.specs.Columns.{column, why}
use Rattle.meaning_written.specs.Texts.{text_column, why_texts}
use Rattle.meaning_columns.specs.Places.{numbers_at, differences_at, bytes_at, texts_at, next_number, next_difference, next_byte, open_text, next_text}

-- ---- numbers

abbrev pub ReadUnsigned : List ℕ → ℕ → Unsigned → Type 0
ReadUnsigned s at r =
    r ≡ comes_to (λ v e. record { refusal = none; value = v; next = e }) (λ why. record { refusal = why; value = 0; next = 0 }) (unsigned s at)

abbrev pub ReadSigned : List ℕ → ℕ → Signed → Type 0
ReadSigned s at r =
    r ≡ comes_to (λ (m, v) e. record { refusal = none; minus = m; magnitude = v; next = e })
    (λ why. record { refusal = why; minus = false; magnitude = 0; next = 0 }) (signed s at)

-- a writer of the bytes b that refuses by a number, into what is lent: its answer r, and what x is then lent back
abbrev pub Writes : ℕ → List ℕ → List ℕ → Written → List ℕ → Type 0
Writes why b lent r x = (r ≡ written why (length lent) b) × (x ≡ put why (length lent) b)

abbrev pub WriteUnsigned : List ℕ → ℕ → Written → List ℕ → Type 0
WriteUnsigned lent v = Writes (when ltb 9223372036854775807 v then 3 else 0) (spelling.unsigned v) lent

abbrev pub WriteSigned : List ℕ → Bool → ℕ → Written → List ℕ → Type 0
WriteSigned lent m v = Writes (when ltb 4611686018427387903 v then 3 else 0) (spelling.signed m v) lent

-- ---- text

abbrev pub CountUnits : List ℕ → Counted → Type 0
CountUnits t r = r ≡ (when well_formed t then record { number = 0; units = record { 0 = units t } } else record { number = 6; units = record { 0 = 0 } })

unfoldable pub cut_of : Taken → Cut
cut_of (Took b) = record { number = 0; bytes = b }
cut_of (Refused why) = record { number = why; bytes = record { 0 = 0 } }

abbrev pub TakeText : List ℕ → ℕ → Units → Cut → Type 0
TakeText t at n r = r ≡ cut_of (take_units 7 n.0 (drop at t))

abbrev pub CutText : List ℕ → Units → Cut → Type 0
CutText t n r = r ≡ cut_of (when well_formed t then take_units 9 n.0 t else Refused 6)

-- ---- columns, read

abbrev pub OpenNumbers : ℕ → number.Place → Type 0
OpenNumbers at r = r ≡ numbers_at at

abbrev pub NextNumber : List ℕ → number.Place → NumberNext → Type 0
NextNumber s c r =
    r ≡ comes_to (λ v d. record { refusal = none; value = v; place = d }) (λ why. record { refusal = why; value = 0; place = c }) (next_number s c)

abbrev pub OpenDifferences : ℕ → difference.Place → Type 0
OpenDifferences at r = r ≡ differences_at at

abbrev pub NextDifference : List ℕ → difference.Place → DifferenceNext → Type 0
NextDifference s c r =
    r ≡ comes_to (λ v d. record { refusal = none; value = v; place = d }) (λ why. record { refusal = why; value = 0; place = c }) (next_difference s c)

abbrev pub OpenBytes : ℕ → byte.Place → Type 0
OpenBytes at r = r ≡ bytes_at at

abbrev pub NextByte : List ℕ → byte.Place → ByteNext → Type 0
NextByte s c r =
    r ≡ comes_to (λ v d. record { refusal = none; value = v; place = d }) (λ why. record { refusal = why; value = 0; place = c }) (next_byte s c)

abbrev pub OpenText : List ℕ → ℕ → TextOpened → Type 0
OpenText s at r =
    r ≡ comes_to (λ _ c. record { refusal = none; place = c }) (λ why. record { refusal = why; place = texts_at (length s) (length s) }) (open_text s at)

abbrev pub NextText : List ℕ → string.Place → TextNext → Type 0
NextText s c r =
    r ≡ comes_to (λ p d. record { refusal = none; part = p; place = d }) (λ why. record { refusal = why; part = part 0 0; place = c }) (next_text s c)

-- ---- columns, read by a reader of any kind

unfoldable pub start_of : List ℕ → Kind → Start
start_of s kind.Number = record { refusal = none; place = Number (numbers_at 0) }
start_of s kind.Difference = record { refusal = none; place = Difference (differences_at 0) }
start_of s kind.Byte = record { refusal = none; place = Byte (bytes_at 0) }
start_of s kind.Text =
    comes_to (λ _ c. record { refusal = none; place = Text c })
    (λ why. record { refusal = why; place = Text (texts_at (length s) (length s)) }) (open_text s 0)

-- a value, or a part; the place of its kind
unfoldable pub step_from : {P A : Type 0} → (P → Place) → (A → ℕ) → (A → Part) → P → Got P A → Step
step_from place value stored c g =
    comes_to (λ a d. record { place = place d; answer = record { refusal = none; value = value a; part = stored a } })
    (λ why. record { place = place c; answer = record { refusal = why; value = 0; part = part 0 0 } }) g

unfoldable pub step_of : List ℕ → Place → Step
step_of s (Number c) = step_from Number (λ v. v) (λ _. part 0 0) c (next_number s c)
step_of s (Difference c) = step_from Difference (λ v. v) (λ _. part 0 0) c (next_difference s c)
step_of s (Byte c) = step_from Byte (λ v. v) (λ _. part 0 0) c (next_byte s c)
step_of s (Text c) = step_from Text (λ _. 0) (λ p. p) c (next_text s c)

-- the reader holds the bytes that were lent, themselves
abbrev pub Open : Bor (List ℕ) → Kind → Opened → Type 0
Open s k r = r ≡ record { refusal = (start_of s.now k).refusal; column = record { bytes = s; place = (start_of s.now k).place } }

abbrev pub Next : Column → Answer → Column → Type 0
Next c r d =
    let x = step_of c.bytes.now c.place in
    (r ≡ x.answer) × (d ≡ record { bytes = c.bytes; place = x.place })

-- ---- columns, read in bulk: at most k values from a place on, and the place after them; a refusal only where the very first is refused

unfoldable pub draws : {P A : Type 0} → (P → Got P A) → ℕ → P → List A × P
draws next zero c = ([], c)
draws next (suc k) c = comes_to (λ v d. let (vs, e) = draws next k d in (v ∷ vs, e)) (λ _. ([], c)) (next c)

unfoldable pub first_why : {P A : Type 0} → (P → Got P A) → ℕ → P → Refusal
first_why next k c = when eqb k 0 then none else comes_to (λ _ _. none) (λ why. why) (next c)

abbrev pub ReadNumbers : List ℕ → number.Place → List ℕ → NumbersRead → List ℕ → Type 0
ReadNumbers s c lent r x =
    let n = length lent in
    let (vs, d) = draws (next_number s) n c in
    (r ≡ record { refusal = first_why (next_number s) n c; count = length vs; place = d }) × (x ≡ padded n vs)

abbrev pub ReadDifferences : List ℕ → difference.Place → List ℕ → DifferencesRead → List ℕ → Type 0
ReadDifferences s c lent r x =
    let n = length lent in
    let (vs, d) = draws (next_difference s) n c in
    (r ≡ record { refusal = first_why (next_difference s) n c; count = length vs; place = d }) × (x ≡ padded n vs)

abbrev pub ReadBytes : List ℕ → byte.Place → List ℕ → BytesRead → List ℕ → Type 0
ReadBytes s c lent r x =
    let n = length lent in
    let (vs, d) = draws (next_byte s) n c in
    (r ≡ record { refusal = first_why (next_byte s) n c; count = length vs; place = d }) × (x ≡ padded n vs)

-- a text takes two words: its place and its length
unfoldable pub part_words : List Part → List ℕ
part_words [] = []
part_words (p ∷ ps) = p.place ∷ p.bytes.0 ∷ part_words ps

abbrev pub ReadTexts : List ℕ → string.Place → List ℕ → TextsRead → List ℕ → Type 0
ReadTexts s c lent r x =
    let n = length lent / 2 in
    let (ps, d) = draws (next_text s) n c in
    (r ≡ record { refusal = first_why (next_text s) n c; count = length ps; place = d }) × (x ≡ padded (length lent) (part_words ps))

-- ---- columns, written

abbrev pub WriteNumbers : List ℕ → List ℕ → Written → List ℕ → Type 0
WriteNumbers lent vs = Writes (why columns.numbers vs) (column columns.numbers vs) lent

abbrev pub WriteDifferences : List ℕ → List ℕ → Written → List ℕ → Type 0
WriteDifferences lent vs = Writes (why columns.differences vs) (column columns.differences vs) lent

abbrev pub WriteBytes : List ℕ → List ℕ → Written → List ℕ → Type 0
WriteBytes lent vs = Writes (why columns.octets vs) (column columns.octets vs) lent

abbrev pub WriteTexts : List ℕ → List ℕ → List ℕ → Written → List ℕ → Type 0
WriteTexts lent t us = Writes (why_texts t us) (text_column t us) lent

-- ---- a state vector: two words an entry; its refusal blames no byte, and is 10 where the words do not take it

abbrev pub ReadStateVector : List ℕ → List ℕ → Vector → List ℕ → Type 0
ReadStateVector v lent r x =
    let found : Got ℕ (List Entry) = on (vector v) (λ es e. when ltb (length lent) (2 * length es) then refused 10 0 else got es e) in
    (r ≡ comes_to (λ es _. record { refusal = none; count = length es }) (λ why. record { refusal = nowhere why.number; count = 0 }) found)
    × (x ≡ padded (length lent) (comes_to (λ es _. words_in es) (λ _. []) found))
