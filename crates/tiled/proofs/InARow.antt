-- The runs of a column stand in a row, of each kind of column, for every spelling.
use Prim.Native.Nat.{ℕ, ◌+◌, ◌-◌, ◌%◌, ◌≤◌, ◌<◌}
use native.Mathlib.Omega.{arith}
use mathlib.Core.Path.{◌≡◌, refl}
use mathlib.Core.Bool.{Bool, true, false}
use mathlib.Core.Logic.{inl, inr}
use mathlib.Core.List.{List}
use lib.Dec.{ltb, leb, eqb}
use lib.ListN.{length, get_or}
use lib.Seq.{slice}
use borrow.Author.Tests.{leb-false}
use Rattle.numbers.specs.declared.Read.{Read}
use Rattle.numbers.specs.declared.Read.TheVariants as read
use Rattle.numbers.specs.declared.Signed.{Signed}
use Rattle.numbers.specs.declared.Signed.TheVariants as signed
use Rattle.numbers.specs.Number.{pick, read_unsigned, read_signed}
use Rattle.numbers.specs.Limits.{max_value, max_clock, max_count}
use Rattle.numbers.proofs.Inside.{Reads, ReadsSigned, unsigned-inside, signed-inside}
use Rattle.text.specs.declared.Taken.{Taken}
use Rattle.text.specs.declared.Taken.TheVariants as units
use Rattle.text.specs.Utf8.{take_units}
use Rattle.runs.specs.Difference.{zero_key}
use Rattle.columns.specs.declared.number.Place as number-place
use Rattle.columns.specs.declared.number.Answer as number-answer
use Rattle.columns.specs.declared.number.Answer.TheVariants as number-variants
use Rattle.columns.specs.declared.difference.Place as difference-place
use Rattle.columns.specs.declared.difference.Answer as difference-answer
use Rattle.columns.specs.declared.difference.Answer.TheVariants as difference-variants
use Rattle.columns.specs.declared.byte.Place as byte-place
use Rattle.columns.specs.declared.byte.Answer.TheVariants as byte-variants
use Rattle.string.specs.declared.Place as string-place
use Rattle.columns.specs.Number as number
use Rattle.columns.specs.Difference as difference
use Rattle.columns.specs.Byte as byte
use Rattle.string.specs.String as string
use Rattle.tiled.specs.Rows.{Follows, NumberFollows, DifferenceFollows, ByteFollows, TextFollows}

module _ (s : List ℕ) where
  -- ---- numbers

  number-drawn : (c d : number-place.Place) → Follows (length s) c.from c.at d.from d.at → NumberFollows s c (number.drawn d)
  unfolding NumberFollows number.drawn
  number-drawn c d h = go (ltb max_value d.last)
    where
      go : (b : Bool) → NumberFollows s c (pick b (number.refuse 3 d.from) (number-variants.Next d.last (number.place_at d.at d.from d.last (d.count - 1))))
      go true = tt
      go false = h

  number-counted : (c : number-place.Place) (x e : ℕ) (r : Read) → c.at < e → Reads s e r → NumberFollows s c (number.counted c.at x e r)
  unfolding NumberFollows number.counted
  number-counted c x e (read.Refused why) b h = tt
  number-counted c x e (read.Number n f) b h = go (ltb max_count n)
    where
      go : (t : Bool) → NumberFollows s c (pick t (number.refuse 3 e) (number.drawn (number.place_at f c.at x (n + 2))))
      go true = tt
      go false = number-drawn c (number.place_at f c.at x (n + 2)) (inr (refl, omega (arith, b, h.0)), h.1)

  number-begun : (c : number-place.Place) (r : Signed) → ReadsSigned s c.at r → NumberFollows s c (number.begun s c.at r)
  unfolding NumberFollows number.begun
  number-begun c (signed.Wrong why) h = tt
  number-begun c (signed.Value m x e) h = go m
    where
      go : (t : Bool) → NumberFollows s c (pick t (number.counted c.at x e (read_unsigned s e)) (number.drawn (number.place_at e c.at x 1)))
      go true = number-counted c x e (read_unsigned s e) h.0 (unsigned-inside s e h.1)
      go false = number-drawn c (number.place_at e c.at x 1) (inr (refl, h.0), h.1)

  pub numbers-in-a-row : (c : number-place.Place) → c.at ≤ length s → NumberFollows s c (number.next_number s c)
  unfolding number.next_number
  numbers-in-a-row c w = go (ltb 0 c.count)
    where
      go : (b : Bool) → NumberFollows s c (pick b (number.drawn c) (number.begun s c.at (read_signed s c.at)))
      go true = number-drawn c c (inl (refl, refl), w)
      go false = number-begun c (read_signed s c.at) (signed-inside s c.at w)

  -- ---- differences

  difference-drawn : (c d : difference-place.Place) → Follows (length s) c.from c.at d.from d.at → DifferenceFollows s c (difference.drawn d)
  unfolding DifferenceFollows difference.drawn
  difference-drawn c d h = go (ltb (d.last + d.key) zero_key)
    where
      drawn : difference-answer.Answer
      drawn = difference-variants.Next (d.last + d.key - zero_key) (difference.place_at d.at d.from (d.last + d.key - zero_key) d.key (d.count - 1))

      low : (b : Bool) → DifferenceFollows s c (pick b (difference.refuse 3 d.from) drawn)
      low true = tt
      low false = h

      go : (b : Bool) → DifferenceFollows s c (pick b (difference.refuse 3 d.from) (pick (ltb max_clock (d.last + d.key - zero_key)) (difference.refuse 3 d.from) drawn))
      go true = tt
      go false = low (ltb max_clock (d.last + d.key - zero_key))

  difference-counted : (c : difference-place.Place) (key e : ℕ) (r : Read) → c.at < e → Reads s e r → DifferenceFollows s c (difference.counted c.at c.last key e r)
  unfolding DifferenceFollows difference.counted
  difference-counted c key e (read.Refused why) b h = tt
  difference-counted c key e (read.Number n f) b h = go (ltb max_count n)
    where
      go : (t : Bool) → DifferenceFollows s c (pick t (difference.refuse 3 e) (difference.drawn (difference.place_at f c.at c.last key (n + 2))))
      go true = tt
      go false = difference-drawn c (difference.place_at f c.at c.last key (n + 2)) (inr (refl, omega (arith, b, h.0)), h.1)

  difference-begun : (c : difference-place.Place) (r : Signed) → ReadsSigned s c.at r → DifferenceFollows s c (difference.begun s c.at c.last r)
  unfolding DifferenceFollows difference.begun
  difference-begun c (signed.Wrong why) h = tt
  difference-begun c (signed.Value m x e) h = go (difference.outside m x)
    where
      key : ℕ
      key = difference.key_read m x

      by : (t : Bool) → DifferenceFollows s c (pick t (difference.drawn (difference.place_at e c.at c.last key 1)) (difference.counted c.at c.last key e (read_unsigned s e)))
      by true = difference-drawn c (difference.place_at e c.at c.last key 1) (inr (refl, h.0), h.1)
      by false = difference-counted c key e (read_unsigned s e) h.0 (unsigned-inside s e h.1)

      go : (t : Bool) → DifferenceFollows s c (pick t (difference.refuse 3 c.at) (pick (eqb (x % 2) 0) (difference.drawn (difference.place_at e c.at c.last key 1)) (difference.counted c.at c.last key e (read_unsigned s e))))
      go true = tt
      go false = by (eqb (x % 2) 0)

  pub differences-in-a-row : (c : difference-place.Place) → c.at ≤ length s → DifferenceFollows s c (difference.next_difference s c)
  unfolding difference.next_difference
  differences-in-a-row c w = go (ltb 0 c.count)
    where
      go : (b : Bool) → DifferenceFollows s c (pick b (difference.drawn c) (difference.begun s c.at c.last (read_signed s c.at)))
      go true = difference-drawn c c (inl (refl, refl), w)
      go false = difference-begun c (read_signed s c.at) (signed-inside s c.at w)

  -- ---- bytes

  byte-counted : (c : byte-place.Place) (v : ℕ) (r : Read) → Reads s (c.at + 1) r → ByteFollows s c (byte.counted c.at v (c.at + 1) r)
  unfolding ByteFollows byte.counted
  byte-counted c v (read.Refused why) h = tt
  byte-counted c v (read.Number n f) h = go (ltb max_count n)
    where
      go : (t : Bool) → ByteFollows s c (pick t (byte.refuse 3 (c.at + 1)) (byte-variants.Next v (byte.place_at f c.at v n)))
      go true = tt
      go false = (inr (refl, omega (arith, h.0)), h.1)

  byte-begun : (c : byte-place.Place) → ByteFollows s c (byte.begun s c.at)
  unfolding ByteFollows byte.begun
  byte-begun c = go (leb (length s) c.at) refl
    where
      v : ℕ
      v = get_or s c.at 0

      by : (t : Bool) → leb (length s) (c.at + 1) ≡ t → c.at < length s
          → ByteFollows s c (pick t (byte-variants.Next v (byte.endless_at (c.at + 1) c.at v)) (byte.counted c.at v (c.at + 1) (read_unsigned s (c.at + 1))))
      by true e h = (inr (refl, omega arith), omega (arith, h))
      by false e h = byte-counted c v (read_unsigned s (c.at + 1)) (unsigned-inside s (c.at + 1) (omega (arith, h)))

      go : (t : Bool) → leb (length s) c.at ≡ t
          → ByteFollows s c (pick t (byte.refuse 1 (length s)) (pick (leb (length s) (c.at + 1)) (byte-variants.Next v (byte.endless_at (c.at + 1) c.at v)) (byte.counted c.at v (c.at + 1) (read_unsigned s (c.at + 1)))))
      go true e = tt
      go false e = by (leb (length s) (c.at + 1)) refl (leb-false (length s) c.at e)

  pub bytes-in-a-row : (c : byte-place.Place) → c.at ≤ length s → ByteFollows s c (byte.next_byte s c)
  unfolding ByteFollows byte.next_byte
  bytes-in-a-row c w = go c.endless
    where
      by : (t : Bool) → ByteFollows s c (pick t (byte-variants.Next c.last (byte.place_at c.at c.from c.last (c.count - 1))) (byte.begun s c.at))
      by true = (inl (refl, refl), w)
      by false = byte-begun c

      go : (t : Bool) → ByteFollows s c (pick t (byte-variants.Next c.last c) (pick (ltb 0 c.count) (byte-variants.Next c.last (byte.place_at c.at c.from c.last (c.count - 1))) (byte.begun s c.at)))
      go true = (inl (refl, refl), w)
      go false = by (ltb 0 c.count)

  -- ---- texts

  text-ending : (c : string-place.Place) (p : number-place.Place) (t : Taken) → Follows (length s) c.units.from c.units.at p.from p.at
      → TextFollows s c (string.text_ending c.at c.end p t)
  unfolding TextFollows string.text_ending
  text-ending c p (units.Took b) h = (refl, refl, h)
  text-ending c p (units.Refused why) h = tt

  text-drawn : (c : string-place.Place) (a : number-answer.Answer) → NumberFollows s c.units a → TextFollows s c (string.units_drawn s c.at c.end a)
  unfolding TextFollows NumberFollows string.units_drawn string.units_taken
  text-drawn c (number-variants.Next n p) h = text-ending c p (take_units 7 n (slice c.at c.end s)) h
  text-drawn c (number-variants.Bad why) h = tt

  pub texts-in-a-row : (c : string-place.Place) → c.units.at ≤ length s → TextFollows s c (string.next_text s c)
  unfolding string.next_text
  texts-in-a-row c w = text-drawn c (number.next_number s c.units) (numbers-in-a-row c.units w)
