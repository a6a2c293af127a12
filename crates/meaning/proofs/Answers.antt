-- The calls on numbers and columns: what they answer over the short reading is what their long-standing definitions say.
use Prim.Native.Nat.{ℕ, ◌+◌, ◌-◌, ◌%◌}
use native.Mathlib.Nat.{le_refl}
use mathlib.Core.Path.{◌≡◌, refl, ap, ◌∙◌}
use mathlib.Core.Bool.{Bool, true, false}
use mathlib.Core.List.{List}
use mathlib.Core.Option.{Option, some, none}
use lib.Dec.{ltb, leb, eqb}
use lib.ListN.{length, take, get_or}
use lib.Seq.{slice, take_all}
use Rattle.numbers.specs.declared.Read.{Read}
use Rattle.numbers.specs.declared.Read.TheVariants as read
use Rattle.numbers.specs.declared.Signed.{Signed}
use Rattle.numbers.specs.declared.Signed.TheVariants as signs
use Rattle.numbers.specs.Number as old-numbers
use Rattle.numbers.specs.Number.{pick}
use Rattle.numbers.specs.Limits.{max_clock, max_count}
use Rattle.text.specs.declared.Part.{Part}
use Rattle.text.specs.declared.Taken.{Taken}
use Rattle.text.specs.declared.Taken.TheVariants as units
use Rattle.text.specs.Utf8.{well_formed, take_units}
use Rattle.columns.specs.declared.number.Place as number-place
use Rattle.columns.specs.declared.number.Answer as number-answer
use Rattle.columns.specs.declared.number.Answer.TheVariants as number
use Rattle.columns.specs.declared.difference.Place as difference-place
use Rattle.columns.specs.declared.difference.Answer as difference-answer
use Rattle.columns.specs.declared.difference.Answer.TheVariants as difference
use Rattle.columns.specs.declared.byte.Place as byte-place
use Rattle.columns.specs.declared.byte.Answer as byte-answer
use Rattle.columns.specs.declared.byte.Answer.TheVariants as byte
use Rattle.columns.specs.Number as old-number
use Rattle.columns.specs.Difference as old-difference
use Rattle.columns.specs.Byte as old-byte
use Rattle.string.specs.declared.Place as string-place
use Rattle.string.specs.declared.Opened as string-opened
use Rattle.string.specs.declared.Opened.TheVariants as opened
use Rattle.string.specs.declared.Answer.TheVariants as string
use Rattle.string.specs.String as old-string
use Rattle.runs.specs.Difference.{zero_key}
use Rattle.grammar.specs.Course.{Drawn}
use Rattle.grammar.proofs.Runs.{both as picked}
use Rattle.decoder.specs.Line.{so_many, bytes_at, checked, word_of}
use Rattle.meaning.specs.Reads.{when◌then◌else◌}
use Rattle.meaning.specs.Columns.{numbers, octets, Lane, lane, next_in, draw}
use Rattle.meaning.specs.Reads.{comes_to}
use Rattle.meaning.specs.Columns.{often}
use Rattle.meaning.specs.Answers.{read_unsigned, read_signed, next_number, next_difference, next_byte, open_text, text_after, next_text}
use Rattle.meaning.specs.Alike.{read_as, signed_as, drawn_as, number_next, difference_next, byte_next}
use Rattle.meaning.proofs.Line.{unsigned_is, signed_is, word-is}
use Rattle.meaning.proofs.Columns.{numbers-is, differences-is, octets-is}

-- of either choice
chosen : {A : Type 0} (P : A → Type 0) (b : Bool) {x y : A} → P x → P y → P (pick b x y)
chosen P true p q = p
chosen P false p q = q

-- ---- numbers in line

pub unsigned-same : (s : List ℕ) (at : ℕ) → old-numbers.read_unsigned s at ≡ read_unsigned s at
unfolding read_unsigned read_as comes_to
unsigned-same s at = rw (unsigned_is s at) (go (old-numbers.read_unsigned s at))
  where
    go : (r : Read) → r ≡ comes_to read.Number read.Refused (read_as r)
    go (read.Number v e) = refl
    go (read.Refused why) = refl

pub signed_same : (s : List ℕ) (at : ℕ) → old-numbers.read_signed s at ≡ read_signed s at
unfolding read_signed signed_as comes_to
signed_same s at = rw (signed_is s at) (go (old-numbers.read_signed s at))
  where
    go : (r : Signed) → r ≡ comes_to (λ (minus, v). signs.Value minus v) signs.Wrong (signed_as r)
    go (signs.Value m v e) = refl
    go (signs.Wrong why) = refl

-- ---- columns: all of the bytes

all-of-it : (s : List ℕ) → take (length s) s ≡ s
all-of-it s = take_all (length s) s (le_refl (length s))

-- a column of numbers never looks at the value before
whole_numbers : (s : List ℕ) (c : number-place.Place)
    → draw s (lane numbers c.at (length s) c.from 0 c.last (some c.count)) ≡ number_next (length s) (old-number.next_number s c)
unfolding draw next_in
whole_numbers s c =
    numbers-is s (record { place = c; to = length s }) ∙ ap (λ (t : List ℕ). number_next (length s) (old-number.next_number t c)) (all-of-it s)

pub number_same : (s : List ℕ) (c : number-place.Place) → old-number.next_number s c ≡ next_number s c
unfolding next_number number_next comes_to
number_same s c = rw (whole_numbers s c) (go (old-number.next_number s c))
  where
    go : (r : number-answer.Answer)
        → r ≡ comes_to (λ v d. number.Next v (record { at = d.at; from = d.from; last = d.run; count = often d.left })) number.Bad (number_next (length s) r)
    go (number.Next v p) = refl
    go (number.Bad why) = refl

-- a difference: the value drawn is the value before, from then on
module _ (s : List ℕ) where
  abbrev DifferenceBack : difference-answer.Answer → Type 0
  DifferenceBack r =
      r ≡ comes_to (λ v d. difference.Next v (record { at = d.at; from = d.from; last = v; key = d.run; count = often d.left })) difference.Bad
      (difference_next (length s) r)

  drawn-back : (p : difference-place.Place) → DifferenceBack (old-difference.drawn p)
  unfolding old-difference.drawn difference_next comes_to
  drawn-back p = chosen DifferenceBack (ltb (p.last + p.key) zero_key) refl (chosen DifferenceBack (ltb max_clock (p.last + p.key - zero_key)) refl refl)

  module _ (at last : ℕ) where
    counted_back : (k e : ℕ) (r : Read) → DifferenceBack (old-difference.counted at last k e r)
    unfolding old-difference.counted difference_next comes_to
    counted_back k e (read.Number n f) = chosen DifferenceBack (ltb max_count n) refl (drawn-back (old-difference.place_at f at last k (n + 2)))
    counted_back k e (read.Refused why) = refl

    begun-back : (r : Signed) → DifferenceBack (old-difference.begun s at last r)
    unfolding old-difference.begun difference_next comes_to
    begun-back (signs.Value m x e) =
        let k = old-difference.key_read m x in
        chosen DifferenceBack (old-difference.outside m x) refl
        (chosen DifferenceBack (eqb (x % 2) 0) (drawn-back (old-difference.place_at e at last k 1)) (counted_back k e (old-numbers.read_unsigned s e)))
    begun-back (signs.Wrong why) = refl

  difference-back : (c : difference-place.Place) → DifferenceBack (old-difference.next_difference s c)
  unfolding old-difference.next_difference
  difference-back c = chosen DifferenceBack (ltb 0 c.count) (drawn-back c) (begun-back c.at c.last (old-numbers.read_signed s c.at))

pub difference-same : (s : List ℕ) (c : difference-place.Place) → old-difference.next_difference s c ≡ next_difference s c
unfolding next_difference
difference-same s c = rw (differences-is s (record { place = c; to = length s }), all-of-it s) (difference-back s c)

-- bytes: a place without end has no count
module _ (s : List ℕ) where
  abbrev ByteBack : byte-answer.Answer → Type 0
  ByteBack r =
      let endless : Option ℕ → Bool = λ o. elim o [ none ↦ true | some n ↦ false ] in
      let placed : Lane → byte-place.Place =
      λ d. record { at = d.at; from = d.from; last = d.run; count = often d.left; endless = endless d.left } in
      r ≡ comes_to (λ v d. byte.Next v (placed d)) byte.Bad (byte_next (length s) r)

  module _ (at : ℕ) where
    byte-counted : (b : ℕ) (r : Read) → ByteBack (old-byte.counted at b (at + 1) r)
    unfolding old-byte.counted byte_next comes_to
    byte-counted b (read.Number n f) = chosen ByteBack (ltb max_count n) refl refl
    byte-counted b (read.Refused why) = refl

    byte-begun : ByteBack (old-byte.begun s at)
    unfolding old-byte.begun byte_next comes_to
    byte-begun =
        chosen ByteBack (leb (length s) at) refl
        (chosen ByteBack (leb (length s) (at + 1)) refl (byte-counted (get_or s at 0) (old-numbers.read_unsigned s (at + 1))))

  module _ (at from last n : ℕ) where
    abbrev ended : byte-place.Place
    ended = old-byte.place_at at from last n

    byte-back : ByteBack (old-byte.next_byte s ended)
    unfolding old-byte.next_byte byte_next comes_to
    byte-back = chosen ByteBack (ltb 0 n) refl (byte-begun at)

    -- the value before is not looked at here either
    whole-bytes : draw s (lane octets at (length s) from 0 last (some n)) ≡ byte_next (length s) (old-byte.next_byte s ended)
    unfolding draw next_in
    whole-bytes = octets-is s (record { place = ended; to = length s }) ∙ ap (λ (t : List ℕ). byte_next (length s) (old-byte.next_byte t ended)) (all-of-it s)

pub byte-same : (s : List ℕ) (c : byte-place.Place) → old-byte.next_byte s c ≡ next_byte s c
unfolding next_byte old-byte.next_byte when◌then◌else◌
byte-same s c = go c.endless
  where
    placed : Bool → byte-place.Place
    placed b = record { at = c.at; from = c.from; last = c.last; count = c.count; endless = b }

    go : (b : Bool) → old-byte.next_byte s (placed b) ≡ next_byte s (placed b)
    go true = refl
    go false = rw (whole-bytes s c.at c.from c.last c.count) (byte-back s c.at c.from c.last c.count)

-- ---- texts

pub open-same : (s : List ℕ) (at : ℕ) → old-string.open_text s at ≡ open_text s at
unfolding old-string.open_text old-string.opened open_text so_many bytes_at checked word_of drawn_as comes_to
open-same s at = rw (word-is s at) (go (old-numbers.read_unsigned s at))
  where
    shown : Drawn ℕ Part → string-opened.Opened
    shown d =
        comes_to (λ p end. opened.At (record { at = p.place; end = end; units = record { at = end; from = end; last = 0; count = 0 } })) opened.Not
        (drawn_as (λ p. p) (λ e. e) d)

    go : (r : Read) → old-string.opened s r ≡ shown (word_of (checked s (so_many s r)))
    go (read.Number n e) =
        picked (λ x y. x ≡ shown (word_of (checked s y))) (ltb (length s - e) n) refl
        (picked (λ x y. x ≡ shown (word_of y)) (well_formed (slice e (e + n) s)) refl refl)
    go (read.Refused why) = refl

pub text_same : (s : List ℕ) (c : string-place.Place) → old-string.next_text s c ≡ next_text s c
unfolding old-string.next_text old-string.units_drawn old-string.units_taken old-string.text_ending next_text text_after
text_same s c = rw (number_same s c.units) (go (next_number s c.units))
  where
    after : (rest : number-place.Place) (t : Taken) → old-string.text_ending c.at c.end rest t ≡ text_after c.at c.end rest t
    after rest (units.Took b) = refl
    after rest (units.Refused why) = refl

    go : (r : number-answer.Answer)
        → old-string.units_drawn s c.at c.end r
        ≡ elim r [ number.Next n rest ↦ text_after c.at c.end rest (take_units 7 n (slice c.at c.end s)) | number.Bad why ↦ string.Bad why ]
    go (number.Next n rest) = after rest (take_units 7 n (slice c.at c.end s))
    go (number.Bad why) = refl
