-- The next answer of a column: a refusal blames the update, and the run that a value is drawn from began at a byte of it. Said of each column in the
-- same way: P holds of its next answer, if it holds of such refusals and of such places.
use Prim.Native.Nat.{ℕ, ◌+◌, ◌-◌, ◌%◌, ◌≤◌, ◌<◌}
use mathlib.Core.Path.{◌≡◌}
use mathlib.Core.Logic.{inl}
use mathlib.Core.Bool.{Bool, true}
use mathlib.Core.List.{List}
use native.Mathlib.Omega.{arith}
use lib.Dec.{ltb, leb, eqb}
use lib.ListN.{length, get_or}
use borrow.Author.Tests.{leb-false}
use Rattle.numbers.specs.declared.Refusal.{Refusal}
use Rattle.numbers.specs.declared.Read.{Read}
use Rattle.numbers.specs.declared.Read.TheVariants.{Number, Refused}
use Rattle.numbers.specs.declared.Signed.{Signed}
use Rattle.numbers.specs.declared.Signed.TheVariants.{Value, Wrong}
use Rattle.numbers.specs.Number.{pick, read_unsigned}
use Rattle.numbers.specs.Limits.{max_value, max_clock, max_count}
use Rattle.runs.specs.Difference.{zero_key}
use Rattle.columns.specs.declared.number.Place as number-place
use Rattle.columns.specs.declared.number.Answer as number-answer
use Rattle.columns.specs.declared.number.Answer.TheVariants as number
use Rattle.columns.specs.declared.difference.Place as difference-place
use Rattle.columns.specs.declared.difference.Answer as difference-answer
use Rattle.columns.specs.declared.difference.Answer.TheVariants as difference
use Rattle.columns.specs.declared.byte.Place as byte-place
use Rattle.columns.specs.declared.byte.Answer as byte-answer
use Rattle.columns.specs.declared.byte.Answer.TheVariants as byte
use Rattle.columns.specs.Number as numbers
use Rattle.columns.specs.Difference as differences
use Rattle.columns.specs.Byte as bytes
use Rattle.pieces.proofs.Forgets.{chosen}
use Rattle.places.specs.Places.{Blames}
use Rattle.places.proofs.BlamedReads.{tested, Reads, ReadsSigned, end-blames, unsigned_reads, signed_reads}

module _ (u : List ℕ) (low : ℕ) where
  -- a run that began at `from` and goes on at `at`: neither is before low, and it began at a byte of u
  abbrev pub Runs : ℕ → ℕ → Type 0
  Runs at from = (low ≤ at) × (low ≤ from) × (from < length u)

  -- a column that goes on at `at`, and has such a run if it has one under way
  abbrev pub Holds : ℕ → ℕ → Bool → Type 0
  Holds at from busy = (low ≤ at) × (busy ≡ true → Runs at from)

  abbrev pub NumberHolds : number-place.Place → Type 0
  NumberHolds c = Holds c.at c.from (ltb 0 c.count)

  abbrev pub DifferenceHolds : difference-place.Place → Type 0
  DifferenceHolds c = Holds c.at c.from (ltb 0 c.count)

  abbrev pub ByteHolds : byte-place.Place → Type 0
  ByteHolds c = Holds c.at c.from (pick c.endless true (ltb 0 c.count))

-- s: the column's bytes, of which there are no more than of the update's
module _ (u s : List ℕ) (l : length s ≤ length u) (low : ℕ) where
  module _ (P : number-answer.Answer → Type 0) (bad : (why : Refusal) → Blames u why → P (number.Bad why))
      (next : (v : ℕ) (c : number-place.Place) → Runs u low c.at c.from → P (number.Next v c)) where
    number-drawn : (c : number-place.Place) → Runs u low c.at c.from → P (numbers.drawn c)
    unfolding numbers.drawn Blames
    number-drawn c h = chosen P (ltb max_value c.last) (bad _ (inl h.2)) (next _ _ h)

    number-counted : (a x e : ℕ) (r : Read) → Runs u low e a → Reads u e r → P (numbers.counted a x e r)
    unfolding numbers.counted Blames
    number-counted a x e (Refused why) k h = bad why h
    number-counted a x e (Number c f) k h =
        chosen P (ltb max_count c) (bad _ (inl (omega (arith, h.0, h.1))))
        (number-drawn (numbers.place_at f a x (c + 2)) (omega (arith, k.0, h.0), k.1, k.2))

    number-begun : (a : ℕ) (r : Signed) → low ≤ a → ReadsSigned u a r → P (numbers.begun s a r)
    unfolding numbers.begun
    number-begun a (Wrong why) p h = bad why h
    number-begun a (Value m x e) p h =
        let k : Runs u low e a = (omega (arith, h.0), p, omega (arith, h.0, h.1)) in
        chosen P m (number-counted a x e (read_unsigned s e) k (unsigned_reads u s l e)) (number-drawn (numbers.place_at e a x 1) k)

    pub number-next : (c : number-place.Place) → NumberHolds u low c → P (numbers.next_number s c)
    unfolding numbers.next_number
    number-next c h = tested P (ltb 0 c.count) (λ b. number-drawn c (h.1 b)) (λ _. number-begun c.at _ h.0 (signed_reads u s l c.at))

  module _ (P : difference-answer.Answer → Type 0) (bad : (why : Refusal) → Blames u why → P (difference.Bad why))
      (next : (v : ℕ) (c : difference-place.Place) → Runs u low c.at c.from → P (difference.Next v c)) where
    difference-drawn : (c : difference-place.Place) → Runs u low c.at c.from → P (differences.drawn c)
    unfolding differences.drawn Blames
    difference-drawn c h =
        chosen P (ltb (c.last + c.key) zero_key) (bad _ (inl h.2))
        (chosen P (ltb max_clock (c.last + c.key - zero_key)) (bad _ (inl h.2)) (next _ _ h))

    difference-counted : (a last key e : ℕ) (r : Read) → Runs u low e a → Reads u e r → P (differences.counted a last key e r)
    unfolding differences.counted Blames
    difference-counted a last key e (Refused why) k h = bad why h
    difference-counted a last key e (Number c f) k h =
        chosen P (ltb max_count c) (bad _ (inl (omega (arith, h.0, h.1))))
        (difference-drawn (differences.place_at f a last key (c + 2)) (omega (arith, k.0, h.0), k.1, k.2))

    difference-begun : (a last : ℕ) (r : Signed) → low ≤ a → ReadsSigned u a r → P (differences.begun s a last r)
    unfolding differences.begun Blames
    difference-begun a last (Wrong why) p h = bad why h
    difference-begun a last (Value m x e) p h =
        let key : ℕ = differences.key_read m x in
        let k : Runs u low e a = (omega (arith, h.0), p, omega (arith, h.0, h.1)) in
        chosen P (differences.outside m x) (bad _ (inl k.2))
        (chosen P (eqb (x % 2) 0) (difference-drawn (differences.place_at e a last key 1) k)
        (difference-counted a last key e (read_unsigned s e) k (unsigned_reads u s l e)))

    pub difference-next : (c : difference-place.Place) → DifferenceHolds u low c → P (differences.next_difference s c)
    unfolding differences.next_difference
    difference-next c h =
        tested P (ltb 0 c.count) (λ b. difference-drawn c (h.1 b)) (λ _. difference-begun c.at c.last _ h.0 (signed_reads u s l c.at))

  module _ (P : byte-answer.Answer → Type 0) (bad : (why : Refusal) → Blames u why → P (byte.Bad why))
      (next : (v : ℕ) (c : byte-place.Place) → Runs u low c.at c.from → P (byte.Next v c)) where
    byte-counted : (a b e : ℕ) (r : Read) → Runs u low e a → Reads u e r → P (bytes.counted a b e r)
    unfolding bytes.counted Blames
    byte-counted a b e (Refused why) k h = bad why h
    byte-counted a b e (Number c f) k h =
        chosen P (ltb max_count c) (bad _ (inl (omega (arith, h.0, h.1)))) (next _ _ (omega (arith, k.0, h.0), k.1, k.2))

    byte-begun : (a : ℕ) → low ≤ a → P (bytes.begun s a)
    unfolding bytes.begun
    byte-begun a p =
        tested P (leb (length s) a) (λ _. bad _ (end-blames u s l)) (λ e.
        let k : Runs u low (a + 1) a = (omega arith, p, omega (arith, leb-false (length s) a e)) in
        chosen P (leb (length s) (a + 1)) (next _ _ k)
        (byte-counted a (get_or s a 0) (a + 1) (read_unsigned s (a + 1)) k (unsigned_reads u s l (a + 1))))

    pub byte_next : (c : byte-place.Place) → ByteHolds u low c → P (bytes.next_byte s c)
    unfolding bytes.next_byte
    byte_next c h =
        tested P c.endless (λ b. next _ _ (h.1 (rw b)))
        (λ e. tested P (ltb 0 c.count) (λ b. next _ _ (h.1 (rw (e, b)))) (λ _. byte-begun c.at h.0))
