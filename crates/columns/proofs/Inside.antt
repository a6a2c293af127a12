-- Draws stay inside: the place after a draw is within the bytes and not before the place drawn from, and a refusal blames a place within them.
-- So it is with each number read, and a column's place moves only to the end of one.
use Prim.Native.Nat.{ℕ, ◌+◌, ◌-◌, ◌%◌, ◌≤◌}
use mathlib.Core.Path.{◌≡◌, refl}
use mathlib.Core.Bool.{Bool, true, false}
use mathlib.Core.List.{List}
use native.Mathlib.Omega.{arith}
use lib.Dec.{ltb, leb, eqb}
use lib.ListN.{length, get_or}
use borrow.Author.Tests.{leb-false}
use Rattle.numbers.specs.declared.Read.{Read}
use Rattle.numbers.specs.declared.Read.TheVariants.{Number, Refused}
use Rattle.numbers.specs.declared.Signed.{Signed}
use Rattle.numbers.specs.declared.Signed.TheVariants.{Value, Wrong}
use Rattle.numbers.specs.Number.{pick, read_unsigned}
use Rattle.numbers.proofs.Inside.{Reads, ReadsSigned, unsigned-inside, signed-inside}
use Rattle.numbers.specs.Limits.{max_value, max_clock, max_count}
use Rattle.columns.specs.declared.number.Answer as number-answer
use Rattle.columns.specs.declared.difference.Answer as difference-answer
use Rattle.columns.specs.declared.byte.Answer as byte-answer
use Rattle.columns.specs.declared.byte.Answer.TheVariants as byte-variants
use Rattle.columns.specs.declared.number.Place as number-place
use Rattle.columns.specs.declared.difference.Place as difference-place
use Rattle.columns.specs.declared.byte.Place as byte-place
use Rattle.columns.specs.Number as number
use Rattle.columns.specs.Difference as difference
use Rattle.runs.specs.Difference.{zero_key}
use Rattle.columns.specs.Byte as byte
use Rattle.columns.specs.Reading.{Draw, drew, stop, number_draw, difference_draw, byte_draw}

-- ---- a draw

-- from place a on, of places d whose next byte is at `at d` and whose run begins at `from d`
abbrev pub Stays : {P : Type 0} → (P → ℕ) → (P → ℕ) → List ℕ → ℕ → Draw P → Type 0
Stays at from s a (drew v d) = (a ≤ at d) × (from d ≤ at d) × (at d ≤ length s)
Stays at from s a (stop w) = w.place ≤ length s

either : {A : Type 0} (F : A → Type 0) (t : Bool) (x y : A) → F x → F y → F (pick t x y)
either F true x y p q = p
either F false x y p q = q

-- ---- the number column

module _ (s : List ℕ) (a : ℕ) where
  abbrev pub NumberStays : number-answer.Answer → Type 0
  NumberStays r = Stays (λ (d : number-place.Place). d.at) (λ (d : number-place.Place). d.from) s a (number_draw r)

  number-drawn : (c : number-place.Place) → a ≤ c.at → c.from ≤ c.at → c.at ≤ length s → NumberStays (number.drawn c)
  unfolding number.drawn number_draw
  number-drawn c p q h = either NumberStays (ltb max_value c.last) _ _ (omega arith) (p, q, h)

  number-counted : (x e : ℕ) (r : Read) → a ≤ e → e ≤ length s → Reads s e r → NumberStays (number.counted a x e r)
  unfolding number.counted number_draw
  number-counted x e (Refused w) p h i = i
  number-counted x e (Number c f) p h i =
      either NumberStays (ltb max_count c) _ _ h (number-drawn (number.place_at f a x (c + 2)) (omega arith) (omega arith) i.1)

  number-begun : (r : Signed) → ReadsSigned s a r → NumberStays (number.begun s a r)
  unfolding number.begun number_draw
  number-begun (Wrong w) i = i
  number-begun (Value m x e) i =
      either NumberStays m _ _ (number-counted x e (read_unsigned s e) (omega arith) i.1 (unsigned-inside s e i.1))
      (number-drawn (number.place_at e a x 1) (omega arith) (omega arith) i.1)

pub number-inside : (s : List ℕ) (c : number-place.Place) → c.from ≤ c.at → c.at ≤ length s → NumberStays s c.at (number.next_number s c)
unfolding number.next_number
number-inside s c q h =
    either (NumberStays s c.at) (ltb 0 c.count) _ _ (number-drawn s c.at c (omega arith) q h)
    (number-begun s c.at _ (signed-inside s c.at h))

-- ---- the difference column

module _ (s : List ℕ) (a : ℕ) where
  abbrev pub DifferenceStays : difference-answer.Answer → Type 0
  DifferenceStays r = Stays (λ (d : difference-place.Place). d.at) (λ (d : difference-place.Place). d.from) s a (difference_draw r)

  difference-drawn : (c : difference-place.Place) → a ≤ c.at → c.from ≤ c.at → c.at ≤ length s → DifferenceStays (difference.drawn c)
  unfolding difference.drawn difference_draw
  difference-drawn c p q h =
      either DifferenceStays (ltb (c.last + c.key) zero_key) _ _ (omega arith)
      (either DifferenceStays (ltb max_clock (c.last + c.key - zero_key)) _ _ (omega arith) (p, q, h))

  difference-counted : (last key e : ℕ) (r : Read) → a ≤ e → e ≤ length s → Reads s e r → DifferenceStays (difference.counted a last key e r)
  unfolding difference.counted difference_draw
  difference-counted last key e (Refused w) p h i = i
  difference-counted last key e (Number c f) p h i =
      either DifferenceStays (ltb max_count c) _ _ h (difference-drawn (difference.place_at f a last key (c + 2)) (omega arith) (omega arith) i.1)

  difference-begun : (last : ℕ) (r : Signed) → a ≤ length s → ReadsSigned s a r → DifferenceStays (difference.begun s a last r)
  unfolding difference.begun difference_draw
  difference-begun last (Wrong w) h i = i
  difference-begun last (Value m x e) h i =
      let key : ℕ = difference.key_read m x in
      either DifferenceStays (difference.outside m x) _ _ h
      (either DifferenceStays (eqb (x % 2) 0) _ _ (difference-drawn (difference.place_at e a last key 1) (omega arith) (omega arith) i.1)
      (difference-counted last key e (read_unsigned s e) (omega arith) i.1 (unsigned-inside s e i.1)))

pub difference_inside : (s : List ℕ) (c : difference-place.Place) → c.from ≤ c.at → c.at ≤ length s
    → DifferenceStays s c.at (difference.next_difference s c)
unfolding difference.next_difference
difference_inside s c q h =
    either (DifferenceStays s c.at) (ltb 0 c.count) _ _ (difference-drawn s c.at c (omega arith) q h)
    (difference-begun s c.at c.last _ h (signed-inside s c.at h))

-- ---- the byte column

module _ (s : List ℕ) (a : ℕ) where
  abbrev pub ByteStays : byte-answer.Answer → Type 0
  ByteStays r = Stays (λ (d : byte-place.Place). d.at) (λ (d : byte-place.Place). d.from) s a (byte_draw r)

  byte-counted : (b e : ℕ) (r : Read) → a ≤ e → e ≤ length s → Reads s e r → ByteStays (byte.counted a b e r)
  unfolding byte.counted byte_draw
  byte-counted b e (Refused w) p h i = i
  byte-counted b e (Number c f) p h i = either ByteStays (ltb max_count c) _ _ h (omega arith, omega arith, i.1)

  byte-begun : ByteStays (byte.begun s a)
  unfolding byte.begun byte_draw
  byte-begun = go (leb (length s) a) refl
    where
      go : (t : Bool) → leb (length s) a ≡ t
          → ByteStays (pick t (byte.refuse 1 (length s))
          (pick (leb (length s) (a + 1)) (byte-variants.Next (get_or s a 0) (byte.endless_at (a + 1) a (get_or s a 0)))
          (byte.counted a (get_or s a 0) (a + 1) (read_unsigned s (a + 1)))))
      go true e = omega arith
      go false e =
          let h : a + 1 ≤ length s = omega (arith, leb-false (length s) a e) in
          either ByteStays (leb (length s) (a + 1)) _ _ (omega arith, omega arith, h)
          (byte-counted (get_or s a 0) (a + 1) (read_unsigned s (a + 1)) (omega arith) h (unsigned-inside s (a + 1) h))

pub byte_inside : (s : List ℕ) (c : byte-place.Place) → c.from ≤ c.at → c.at ≤ length s → ByteStays s c.at (byte.next_byte s c)
unfolding byte.next_byte byte_draw
byte_inside s c q h =
    let here : (c.at ≤ c.at) × (c.from ≤ c.at) × (c.at ≤ length s) = (omega arith, q, h) in
    either (ByteStays s c.at) c.endless _ _ here (either (ByteStays s c.at) (ltb 0 c.count) _ _ here (byte-begun s c.at))
