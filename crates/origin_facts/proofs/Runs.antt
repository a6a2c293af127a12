-- A draw from a column leaves fewer values of its run than the run has, where no more were left before.
use Prim.Native.Nat.{ℕ, ◌+◌, ◌-◌, ◌%◌, ◌≤◌, ◌<◌}
use mathlib.Core.Path.{◌≡◌, refl, sym, ◌∙◌}
use mathlib.Core.List.{List}
use mathlib.Core.Bool.{Bool, true, false, true≢false}
use native.Mathlib.Omega.{arith}
use lib.Dec.{ltb, leb, eqb}
use lib.ListN.{length, get_or}
use borrow.Author.Tests.{ltb-true}
use Rattle.numbers.specs.declared.Read.{Read}
use Rattle.numbers.specs.declared.Read.TheVariants as read
use Rattle.numbers.specs.declared.Signed.{Signed}
use Rattle.numbers.specs.declared.Signed.TheVariants as signed
use Rattle.numbers.specs.Number.{pick, read_unsigned, read_signed}
use Rattle.numbers.specs.Limits.{max_value, max_clock, max_count}
use Rattle.text.specs.declared.Taken.{Taken}
use Rattle.text.specs.declared.Taken.TheVariants as units
use Rattle.text.specs.Utf8.{take_units}
use Rattle.runs.specs.Difference.{zero_key}
use Rattle.columns.specs.declared.number.Place as number-place
use Rattle.columns.specs.declared.number.Answer as number-answer
use Rattle.columns.specs.declared.number.Answer.TheVariants as number
use Rattle.columns.specs.declared.difference.Place as difference-place
use Rattle.columns.specs.declared.difference.Answer as difference-answer
use Rattle.columns.specs.declared.difference.Answer.TheVariants as difference
use Rattle.columns.specs.declared.byte.Place as byte-place
use Rattle.columns.specs.declared.byte.Answer as byte-answer
use Rattle.columns.specs.declared.byte.Answer.TheVariants as byte
use Rattle.columns.specs.Number as numbers
use Rattle.columns.specs.Number.{next_number}
use Rattle.columns.specs.Difference as differences
use Rattle.columns.specs.Difference.{outside, key_read, next_difference}
use Rattle.columns.specs.Byte as bytes
use Rattle.columns.specs.Byte.{next_byte}
use Rattle.string.specs.declared.Place as string-place
use Rattle.string.specs.declared.Answer as string-answer
use Rattle.string.specs.declared.Answer.TheVariants as string
use Rattle.string.specs.String as strings
use Rattle.string.specs.String.{next_text}
use Rattle.origins.specs.Origins.{times_read, number_times, difference_times, byte_times}

-- the count that was read
count-read : (s : List ℕ) (more e n f : ℕ) → read_unsigned s e ≡ read.Number n f → ltb max_count n ≡ false → times_read more (read_unsigned s e) ≡ n + more
unfolding times_read
count-read s more e n f q l = rw (q, l) refl

-- ---- numbers

module _ (s : List ℕ) where
  abbrev pub times_of : number-place.Place → ℕ
  times_of c = number_times s (read_signed s c.from)

  unfoldable pub LeavesNumber : number-answer.Answer → Type 0
  LeavesNumber (number.Next v d) = d.count < times_of d
  LeavesNumber (number.Bad why) = Unit {0}

  drawn-number : (c : number-place.Place) → 0 < c.count → c.count ≤ times_of c → LeavesNumber (numbers.drawn c)
  unfolding LeavesNumber numbers.drawn
  drawn-number c some few = go (ltb max_value c.last)
    where
      go : (b : Bool) → LeavesNumber (pick b (numbers.refuse 3 c.from) (number.Next c.last (numbers.place_at c.at c.from c.last (c.count - 1))))
      go true = tt
      go false = omega arith

  counted-number : (at x e : ℕ) → read_signed s at ≡ signed.Value true x e → (r : Read) → read_unsigned s e ≡ r → LeavesNumber (numbers.counted at x e r)
  unfolding LeavesNumber numbers.counted number_times
  counted-number at x e q (read.Refused why) z = tt
  counted-number at x e q (read.Number n f) z = go (ltb max_count n) refl
    where
      go : (b : Bool) → ltb max_count n ≡ b → LeavesNumber (pick b (numbers.refuse 3 e) (numbers.drawn (numbers.place_at f at x (n + 2))))
      go true l = tt
      go false l =
          let h : number_times s (read_signed s at) ≡ n + 2 = rw q (count-read s 2 e n f z l) in
          drawn-number (numbers.place_at f at x (n + 2)) (omega arith) (omega (arith, h))

  begun-number : (at : ℕ) (x : Signed) → read_signed s at ≡ x → LeavesNumber (numbers.begun s at x)
  unfolding LeavesNumber numbers.begun number_times
  begun-number at (signed.Wrong why) q = tt
  begun-number at (signed.Value true x e) q = counted-number at x e q (read_unsigned s e) refl
  begun-number at (signed.Value false x e) q =
      let h : number_times s (read_signed s at) ≡ 1 = rw q refl in
      drawn-number (numbers.place_at e at x 1) (omega arith) (omega (arith, h))

  pub next-number : (c : number-place.Place) → c.count ≤ times_of c → LeavesNumber (next_number s c)
  unfolding next_number
  next-number c few = go (ltb 0 c.count) refl
    where
      go : (b : Bool) → ltb 0 c.count ≡ b → LeavesNumber (pick b (numbers.drawn c) (numbers.begun s c.at (read_signed s c.at)))
      go true q = drawn-number c (ltb-true 0 c.count q) few
      go false q = begun-number c.at (read_signed s c.at) refl

  -- ---- texts, by their units

  unfoldable pub LeavesText : string-answer.Answer → Type 0
  LeavesText (string.Next p d) = d.units.count < times_of d.units
  LeavesText (string.Bad why) = Unit {0}

  pub next-text : (c : string-place.Place) → c.units.count ≤ times_of c.units → LeavesText (next_text s c)
  unfolding next_text strings.units_drawn strings.units_taken strings.text_ending LeavesText LeavesNumber
  next-text c few = go (next_number s c.units) (next-number c.units few)
    where
      ended : (rest : number-place.Place) → rest.count < times_of rest → (x : Taken) → LeavesText (strings.text_ending c.at c.end rest x)
      ended rest h (units.Took b) = h
      ended rest h (units.Refused why) = tt

      go : (a : number-answer.Answer) → LeavesNumber a → LeavesText (strings.units_drawn s c.at c.end a)
      go (number.Next n rest) h = ended rest h (take_units 7 n _)
      go (number.Bad why) h = tt

-- ---- differences

module _ (s : List ℕ) where
  abbrev pub differences_of : difference-place.Place → ℕ
  differences_of c = difference_times s (read_signed s c.from)

  unfoldable pub LeavesDifference : difference-answer.Answer → Type 0
  LeavesDifference (difference.Next v d) = d.count < differences_of d
  LeavesDifference (difference.Bad why) = Unit {0}

  drawn-difference : (c : difference-place.Place) → 0 < c.count → c.count ≤ differences_of c → LeavesDifference (differences.drawn c)
  unfolding LeavesDifference differences.drawn
  drawn-difference c some few = go (ltb (c.last + c.key) zero_key) (ltb max_clock (c.last + c.key - zero_key))
    where
      go : (b o : Bool)
          → LeavesDifference (pick b (differences.refuse 3 c.from) (pick o (differences.refuse 3 c.from) (difference.Next (c.last + c.key - zero_key) (differences.place_at c.at c.from (c.last + c.key - zero_key) c.key (c.count - 1)))))
      go true o = tt
      go false true = tt
      go false false = omega arith

  counted-difference : (at last key x e : ℕ) (m : Bool) → read_signed s at ≡ signed.Value m x e → eqb (x % 2) 0 ≡ false → (r : Read) → read_unsigned s e ≡ r
      → LeavesDifference (differences.counted at last key e r)
  unfolding LeavesDifference differences.counted difference_times
  counted-difference at last key x e m q odd (read.Refused why) z = tt
  counted-difference at last key x e m q odd (read.Number n f) z = go (ltb max_count n) refl
    where
      go : (b : Bool) → ltb max_count n ≡ b → LeavesDifference (pick b (differences.refuse 3 e) (differences.drawn (differences.place_at f at last key (n + 2))))
      go true l = tt
      go false l =
          let h : difference_times s (read_signed s at) ≡ n + 2 = rw (q, odd) (count-read s 2 e n f z l) in
          drawn-difference (differences.place_at f at last key (n + 2)) (omega arith) (omega (arith, h))

  begun-difference : (at last : ℕ) (x : Signed) → read_signed s at ≡ x → LeavesDifference (differences.begun s at last x)
  unfolding LeavesDifference differences.begun difference_times
  begun-difference at last (signed.Wrong why) q = tt
  begun-difference at last (signed.Value m x e) q = go (outside m x) (eqb (x % 2) 0) refl
    where
      go : (b o : Bool) → eqb (x % 2) 0 ≡ o
          → LeavesDifference (pick b (differences.refuse 3 at) (pick o (differences.drawn (differences.place_at e at last (key_read m x) 1)) (differences.counted at last (key_read m x) e (read_unsigned s e))))
      go true o p = tt
      go false true p =
          let h : difference_times s (read_signed s at) ≡ 1 = rw (q, p) refl in
          drawn-difference (differences.place_at e at last (key_read m x) 1) (omega arith) (omega (arith, h))
      go false false p = counted-difference at last (key_read m x) x e m q p (read_unsigned s e) refl

  pub next-difference : (c : difference-place.Place) → c.count ≤ differences_of c → LeavesDifference (next_difference s c)
  unfolding next_difference
  next-difference c few = go (ltb 0 c.count) refl
    where
      go : (b : Bool) → ltb 0 c.count ≡ b → LeavesDifference (pick b (differences.drawn c) (differences.begun s c.at c.last (read_signed s c.at)))
      go true q = drawn-difference c (ltb-true 0 c.count q) few
      go false q = begun-difference c.at c.last (read_signed s c.at) refl

-- ---- bytes, but for one that stands without end

module _ (s : List ℕ) where
  unfoldable pub LeavesByte : byte-answer.Answer → Type 0
  LeavesByte (byte.Next v d) = d.endless ≡ false → d.count < byte_times s d.from
  LeavesByte (byte.Bad why) = Unit {0}

  counted-byte : (at v : ℕ) (r : Read) → read_unsigned s (at + 1) ≡ r → LeavesByte (bytes.counted at v (at + 1) r)
  unfolding LeavesByte bytes.counted byte_times
  counted-byte at v (read.Refused why) z = tt
  counted-byte at v (read.Number n f) z = go (ltb max_count n) refl
    where
      go : (b : Bool) → ltb max_count n ≡ b → LeavesByte (pick b (bytes.refuse 3 (at + 1)) (byte.Next v (bytes.place_at f at v n)))
      go true l = tt
      go false l = λ e. let h = count-read s 1 (at + 1) n f z l in omega (arith, h)

  begun-byte : (at : ℕ) → LeavesByte (bytes.begun s at)
  unfolding LeavesByte bytes.begun
  begun-byte at = go (leb (length s) at) (leb (length s) (at + 1))
    where
      go : (b o : Bool)
          → LeavesByte (pick b (bytes.refuse 1 (length s)) (pick o (byte.Next (get_or s at 0) (bytes.endless_at (at + 1) at (get_or s at 0))) (bytes.counted at (get_or s at 0) (at + 1) (read_unsigned s (at + 1)))))
      go true o = tt
      go false true = λ e. absurd (true≢false e)
      go false false = counted-byte at (get_or s at 0) (read_unsigned s (at + 1)) refl

  pub next-byte : (c : byte-place.Place) → (c.endless ≡ false → c.count ≤ byte_times s c.from) → LeavesByte (next_byte s c)
  unfolding LeavesByte next_byte
  next-byte c few = go c.endless refl (ltb 0 c.count) refl
    where
      go : (b : Bool) → c.endless ≡ b → (o : Bool) → ltb 0 c.count ≡ o
          → LeavesByte (pick b (byte.Next c.last c) (pick o (byte.Next c.last (bytes.place_at c.at c.from c.last (c.count - 1))) (bytes.begun s c.at)))
      go true q o l = λ e. absurd (true≢false (sym q ∙ e))
      go false q true l = λ e. omega (arith, few q, ltb-true 0 c.count l)
      go false q false l = begun-byte c.at
