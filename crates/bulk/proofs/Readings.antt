-- Reading in bulk is reading draw by draw: its values and the refusal that ended them are those of `columns` specs/Reading and of `readTexts`. A refusal
-- that is told stands beside no value, and where nothing was drawn the place is as it was.
use Prim.Native.Nat.{ℕ, zero, suc, ◌+◌}
use mathlib.Core.Path.{◌≡◌, refl, ap, ◌∙◌}
use mathlib.Core.Bool.{Bool, true, false}
use mathlib.Core.List.{List, ◌∷◌, map}
use native.Mathlib.Omega.{arith}
use lib.Dec.{eqb}
use lib.ListN.{length}
use lib.Seq.{slice}
use borrow.Author.Tests.{eqb-true}
use Rattle.numbers.specs.Number.{pick, none}
use Rattle.text.specs.declared.Part.{Part}
use Rattle.columns.specs.declared.number.Place as number-place
use Rattle.columns.specs.declared.number.Answer as number-answer
use Rattle.columns.specs.declared.number.Answer.TheVariants as number
use Rattle.columns.specs.Number.{next_number}
use Rattle.columns.specs.declared.difference.Place as difference-place
use Rattle.columns.specs.declared.difference.Answer as difference-answer
use Rattle.columns.specs.declared.difference.Answer.TheVariants as difference
use Rattle.columns.specs.Difference.{next_difference}
use Rattle.columns.specs.declared.byte.Place as byte-place
use Rattle.columns.specs.declared.byte.Answer as byte-answer
use Rattle.columns.specs.declared.byte.Answer.TheVariants as byte
use Rattle.columns.specs.Byte.{next_byte}
use Rattle.columns.specs.Reading as reading
use Rattle.string.specs.declared.Place as string-place
use Rattle.string.specs.declared.Answer as string-answer
use Rattle.string.specs.declared.Answer.TheVariants as string
use Rattle.string.specs.String as strings
use Rattle.string.specs.StringInner as strings-inner
use Rattle.bulk.specs.Bulk.{Draw, drew, stop, Bulk, and_then, draws, told, number_draw, difference_draw, byte_draw, text_draw, draw_numbers, draw_differences, draw_bytes, draw_texts}

-- ---- the columns of numbers

abbrev reading_of : {P : Type 0} → Bulk ℕ P → reading.Reading
reading_of b = record { values = b.values; refusal = b.refusal }

abbrev plain : {P : Type 0} → Draw ℕ P → reading.Draw P
plain (drew v d) = reading.drew v d
plain (stop why) = reading.stop why

module _ {P : Type 0} (each : P → reading.Draw P) (next : P → Draw ℕ P) (alike : (c : P) → each c ≡ plain (next c)) where
  turn : (k : ℕ) (c : P) (x : Draw ℕ P) → ((d : P) → reading.reads each k d ≡ reading_of (draws next k d))
      → reading.and_then (plain x) (λ d. reading.reads each k d) ≡ reading_of (and_then c x (λ d. draws next k d))
  unfolding reading.and_then and_then
  turn k c (drew v d) on = ap (λ (r : reading.Reading). record { values = v ∷ r.values; refusal = r.refusal }) (on d)
  turn k c (stop why) on = refl

  read_alike : (k : ℕ) (c : P) → reading.reads each k c ≡ reading_of (draws next k c)
  unfolding reading.reads draws
  read_alike zero c = refl
  read_alike (suc k) c =
      ap (λ (x : reading.Draw P). reading.and_then x (λ d. reading.reads each k d)) (alike c) ∙ turn k c (next c) (read_alike k)

pub numbers-read : (k : ℕ) (s : List ℕ) (c : number-place.Place) → reading.read_numbers k s c ≡ reading_of (draw_numbers k s c)
unfolding reading.number_draw number_draw
numbers-read k s c = read_alike _ (λ d. number_draw (next_number s d)) (λ d. go (next_number s d)) k c
  where
    go : (r : number-answer.Answer) → reading.number_draw r ≡ plain (number_draw r)
    go (number.Next v d) = refl
    go (number.Bad why) = refl

pub differences-read : (k : ℕ) (s : List ℕ) (c : difference-place.Place) → reading.read_differences k s c ≡ reading_of (draw_differences k s c)
unfolding reading.difference_draw difference_draw
differences-read k s c = read_alike _ (λ d. difference_draw (next_difference s d)) (λ d. go (next_difference s d)) k c
  where
    go : (r : difference-answer.Answer) → reading.difference_draw r ≡ plain (difference_draw r)
    go (difference.Next v d) = refl
    go (difference.Bad why) = refl

pub bytes_read : (k : ℕ) (s : List ℕ) (c : byte-place.Place) → reading.read_bytes k s c ≡ reading_of (draw_bytes k s c)
unfolding reading.byte_draw byte_draw
bytes_read k s c = read_alike _ (λ d. byte_draw (next_byte s d)) (λ d. go (next_byte s d)) k c
  where
    go : (r : byte-answer.Answer) → reading.byte_draw r ≡ plain (byte_draw r)
    go (byte.Next v d) = refl
    go (byte.Bad why) = refl

-- ---- texts

abbrev text_of : List ℕ → Part → List ℕ
text_of s p = slice p.place (p.place + p.bytes.0) s

abbrev texts_of : List ℕ → Bulk Part string-place.Place → strings-inner.Texts
texts_of s b = record { texts = map (text_of s) b.values; refusal = b.refusal }

text-turn : (k : ℕ) (s : List ℕ) (c : string-place.Place) (r : string-answer.Answer)
    → ((d : string-place.Place) → strings-inner.read_texts k s d ≡ texts_of s (draw_texts k s d))
    → strings-inner.and_then s r (λ d. strings-inner.read_texts k s d) ≡ texts_of s (and_then c (text_draw r) (λ d. draw_texts k s d))
unfolding strings-inner.and_then and_then text_draw
text-turn k s c (string.Next p d) on = ap (λ (t : strings-inner.Texts). record { texts = text_of s p ∷ t.texts; refusal = t.refusal }) (on d)
text-turn k s c (string.Bad why) on = refl

pub texts-read : (k : ℕ) (s : List ℕ) (c : string-place.Place) → strings-inner.read_texts k s c ≡ texts_of s (draw_texts k s c)
unfolding strings-inner.read_texts draws
texts-read zero s c = refl
texts-read (suc k) s c = text-turn k s c (strings.next_text s c) (texts-read k s)

-- ---- refusals and places

-- no refusal stands beside values
pub refused-alone : {A P : Type 0} (b : Bulk A P) → ((told b).number ≡ 0 → ⊥) → length b.values ≡ 0
unfolding told
refused-alone b not = go (eqb (length b.values) 0) refl not
  where
    go : (t : Bool) → eqb (length b.values) 0 ≡ t → ((pick t b.refusal none).number ≡ 0 → ⊥) → length b.values ≡ 0
    go true e n = eqb-true (length b.values) 0 e
    go false e n = absurd (n refl)

-- where nothing was drawn, the place is as it was
pub nothing-moves : {A P : Type 0} (next : P → Draw A P) (k : ℕ) (c : P) → length (draws next k c).values ≡ 0 → (draws next k c).place ≡ c
unfolding draws and_then
nothing-moves next zero c e = refl
nothing-moves next (suc k) c e = go (next c) e
  where
    go : (x : Draw _ _) → length (and_then c x (λ d. draws next k d)).values ≡ 0 → (and_then c x (λ d. draws next k d)).place ≡ c
    go (drew v d) z = absurd (omega (arith, z))
    go (stop why) z = refl
