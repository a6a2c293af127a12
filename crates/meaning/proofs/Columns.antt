-- That a column gives what the decoder's columns give, at every state of it.
use Prim.Native.Nat.{ℕ, ◌+◌, ◌-◌, ◌/◌, ◌%◌}
use mathlib.Core.Path.{◌≡◌, refl, subst, sym, ◌∙◌}
use mathlib.Core.Bool.{Bool, true, false}
use mathlib.Core.List.{List}
use mathlib.Core.Option.{Option, some}
use native.Mathlib.Nat.{zero-add}
use native.Mathlib.Omega.{arith}
use lib.Dec.{ltb, leb, eqb}
use lib.ListN.{length, take, get_or}
use borrow.Author.Tests.{ltb-true, ltb-false, leb-true, leb-false, lt-ltb, le-ltb}
use Rattle.numbers.specs.declared.Read.{Read}
use Rattle.numbers.specs.declared.Read.TheVariants as read
use Rattle.numbers.specs.declared.Signed.{Signed}
use Rattle.numbers.specs.declared.Signed.TheVariants as signs
use Rattle.numbers.specs.Number.{pick, read_unsigned, read_signed}
use Rattle.numbers.specs.Limits.{max_value, max_clock, max_count}
use Rattle.columns.specs.declared.number.Place as number-place
use Rattle.columns.specs.declared.number.Answer as number-answer
use Rattle.columns.specs.declared.number.Answer.TheVariants as number
use Rattle.columns.specs.declared.difference.Place as difference-place
use Rattle.columns.specs.declared.byte.Answer.TheVariants as byte-answer
use Rattle.runs.specs.Difference.{zero_key}
use Rattle.columns.specs.Number as old-numbers
use Rattle.columns.specs.Difference as old-differences
use Rattle.columns.specs.Byte as old-bytes
use Rattle.decoder.specs.States.{Numbers, Differences, Octets}
use Rattle.meaning.specs.Reads.{when◌then◌else◌, Got, got, refused, on, done, refuse}
use Rattle.meaning.specs.Line.{raised, byte}
use Rattle.meaning.specs.Columns.{numbers, differences, octets, Lane, lane, goes_on, fewer, no_rise, count, run_of, next_in, draw}
use Rattle.meaning.specs.Alike.{read_as, signed_as, numbers_as, differences_as, octets_as, number_next, difference_next, byte_next}
use Rattle.meaning.proofs.Line.{unsigned_is, signed_is}

-- ---- a count

unfoldable count_as : ℕ → ℕ → Read → Got ℕ ℕ
count_as more at (read.Number c f) = when ltb max_count c then refused 3 at else got (c + more) f
count_as more at (read.Refused why) = refused why.number why.place

count-is : (s : List ℕ) (more at : ℕ) → count s more at ≡ count_as more at (read_unsigned s at)
unfolding count raised on count_as read_as when◌then◌else◌
count-is s more at = rw (unsigned_is s at) (go (read_unsigned s at))
  where
    test : (b : Bool) (c f : ℕ) → on ((when b then refuse 3 at else done c) f) (λ v. done (v + more)) ≡ (when b then refused 3 at else got (c + more) f)
    test true c f = refl
    test false c f = refl

    go : (r : Read) → on (on (read_as r) (λ v. when ltb max_count (0 + v) then refuse 3 at else done (0 + v))) (λ c. done (c + more)) ≡ count_as more at r
    go (read.Number c f) = rw (zero-add c) (test (ltb max_count c) c f)
    go (read.Refused why) = refl

-- ---- numbers

-- a value of the run under way, whatever the value before was
number-drawn : (to last : ℕ) (p : number-place.Place)
    → next_in numbers (lane numbers p.at to p.from last p.last (some p.count)) ≡ number_next to (old-numbers.drawn p)
unfolding next_in old-numbers.drawn number_next when◌then◌else◌ fewer
number-drawn to last p = go (ltb max_value p.last) refl
  where
    go : (b : Bool) → ltb max_value p.last ≡ b
        → next_in numbers (lane numbers p.at to p.from last p.last (some p.count)) ≡ number_next to (old-numbers.drawn p)
    go true e = rw e
    go false e = rw e

module _ (s : List ℕ) (to at last : ℕ) where
  abbrev number_goes_on : ℕ × Option ℕ → ℕ → Got Lane ℕ
  number_goes_on (x, n) e = next_in numbers (lane numbers e to at last x n)

  number-counted : (x e : ℕ) (r : Read) → on (on (count_as 2 e r) (λ n. done (x, some n))) number_goes_on ≡ number_next to (old-numbers.counted at x e r)
  unfolding on count_as old-numbers.counted number_next when◌then◌else◌
  number-counted x e (read.Refused why) = refl
  number-counted x e (read.Number c f) = go (ltb max_count c)
    where
      go : (b : Bool) → on (on (when b then refused 3 e else got (c + 2) f) (λ n. done (x, some n))) number_goes_on
          ≡ number_next to (pick b (old-numbers.refuse 3 e) (old-numbers.drawn (old-numbers.place_at f at x (c + 2))))
      go true = refl
      go false = number-drawn to last (old-numbers.place_at f at x (c + 2))

  number-begun : on (run_of numbers s at) number_goes_on ≡ number_next to (old-numbers.begun s at (read_signed s at))
  unfolding run_of old-numbers.begun number_next when◌then◌else◌ on signed_as
  number-begun = rw (signed_is s at) (go (read_signed s at))
    where
      go : (r : Signed) → on (on (signed_as r) (λ (m, x) e. on ((when m then count s 2 else done 1) e) (λ n. done (x, some n)))) number_goes_on
          ≡ number_next to (old-numbers.begun s at r)
      go (signs.Value true x e) = rw (count-is s 2 e) (number-counted x e (read_unsigned s e))
      go (signs.Value false x e) = number-drawn to last (old-numbers.place_at e at x 1)
      go (signs.Wrong why) = refl

pub numbers-is : (u : List ℕ) (c : Numbers) → draw u (numbers_as c) ≡ number_next c.to (old-numbers.next_number (take c.to u) c.place)
unfolding draw goes_on old-numbers.next_number when◌then◌else◌
numbers-is u c = go (ltb 0 c.place.count) refl
  where
    go : (b : Bool) → ltb 0 c.place.count ≡ b
        → draw u (numbers_as c) ≡ number_next c.to (old-numbers.next_number (take c.to u) c.place)
    go true e = rw e (number-drawn c.to c.place.last c.place)
    go false e = rw e (number-begun (take c.to u) c.to c.place.at c.place.last)

-- the value drawn is the run's value from then on
abbrev LastIs : number-answer.Answer → Type 0
LastIs (number.Next v c) = c.last ≡ v
LastIs (number.Bad why) = Unit {0}

drawn-last : (p : number-place.Place) → LastIs (old-numbers.drawn p)
unfolding old-numbers.drawn
drawn-last p = go (ltb max_value p.last)
  where
    go : (b : Bool)
        → LastIs (pick b (old-numbers.refuse 3 p.from) (number.Next p.last (old-numbers.place_at p.at p.from p.last (p.count - 1))))
    go true = tt
    go false = refl

next_last : (s : List ℕ) (p : number-place.Place) → LastIs (old-numbers.next_number s p)
unfolding old-numbers.next_number old-numbers.begun old-numbers.counted
next_last s p = go (ltb 0 p.count)
  where
    counted : (x e : ℕ) (r : Read) → LastIs (old-numbers.counted p.at x e r)
    counted x e (read.Refused why) = tt
    counted x e (read.Number c f) = test (ltb max_count c)
      where
        test : (b : Bool) → LastIs (pick b (old-numbers.refuse 3 e) (old-numbers.drawn (old-numbers.place_at f p.at x (c + 2))))
        test true = tt
        test false = drawn-last (old-numbers.place_at f p.at x (c + 2))

    begun : (r : Signed) → LastIs (old-numbers.begun s p.at r)
    begun (signs.Wrong why) = tt
    begun (signs.Value true x e) = counted x e (read_unsigned s e)
    begun (signs.Value false x e) = drawn-last (old-numbers.place_at e p.at x 1)

    go : (b : Bool) → LastIs (pick b (old-numbers.drawn p) (old-numbers.begun s p.at (read_signed s p.at)))
    go true = drawn-last p
    go false = begun (read_signed s p.at)

pub number-last : (s : List ℕ) (p c : number-place.Place) (v : ℕ) → old-numbers.next_number s p ≡ number.Next v c → c.last ≡ v
number-last s p c v e = subst LastIs e (next_last s p)

-- ---- differences

difference-drawn : (to : ℕ) (p : difference-place.Place)
    → next_in differences (lane differences p.at to p.from p.last p.key (some p.count)) ≡ difference_next to (old-differences.drawn p)
unfolding next_in old-differences.drawn difference_next when◌then◌else◌ fewer
difference-drawn to p = go (ltb (p.last + p.key) zero_key) refl (ltb max_clock (p.last + p.key - zero_key)) refl
  where
    go : (below : Bool) → ltb (p.last + p.key) zero_key ≡ below → (above : Bool) → ltb max_clock (p.last + p.key - zero_key) ≡ above
        → next_in differences (lane differences p.at to p.from p.last p.key (some p.count)) ≡ difference_next to (old-differences.drawn p)
    go true e above f = rw e
    go false e true f = rw (e, f)
    go false e false f = rw (e, f)

outside-is : (m : Bool) (x : ℕ) → ltb max_clock (when m then x - 1 else x) ≡ old-differences.outside m x
unfolding old-differences.outside when◌then◌else◌
outside-is true x = go (ltb 2147483648 x) refl
  where
    go : (b : Bool) → ltb 2147483648 x ≡ b → ltb max_clock (x - 1) ≡ ltb 2147483648 x
    go true e = lt-ltb max_clock (x - 1) (omega (arith, ltb-true 2147483648 x e)) ∙ sym e
    go false e = le-ltb max_clock (x - 1) (omega (arith, ltb-false 2147483648 x e)) ∙ sym e
outside-is false x = go (leb 2147483648 x) refl
  where
    go : (b : Bool) → leb 2147483648 x ≡ b → ltb max_clock x ≡ leb 2147483648 x
    go true e = lt-ltb max_clock x (omega (arith, leb-true 2147483648 x e)) ∙ sym e
    go false e = le-ltb max_clock x (omega (arith, leb-false 2147483648 x e)) ∙ sym e

key-is : (m : Bool) (x : ℕ) → (when m then no_rise - (x + 1) / 2 else no_rise + x / 2) ≡ old-differences.key_read m x
unfolding old-differences.key_read when◌then◌else◌
key-is true x = refl
key-is false x = refl

module _ (s : List ℕ) (to at last : ℕ) where
  abbrev difference_goes_on : ℕ × Option ℕ → ℕ → Got Lane ℕ
  difference_goes_on (x, n) e = next_in differences (lane differences e to at last x n)

  difference-counted : (k e : ℕ) (r : Read)
      → on (on (count_as 2 e r) (λ n. done (k, some n))) difference_goes_on ≡ difference_next to (old-differences.counted at last k e r)
  unfolding on count_as old-differences.counted difference_next when◌then◌else◌
  difference-counted k e (read.Refused why) = refl
  difference-counted k e (read.Number c f) = go (ltb max_count c)
    where
      go : (b : Bool) → on (on (when b then refused 3 e else got (c + 2) f) (λ n. done (k, some n))) difference_goes_on
          ≡ difference_next to (pick b (old-differences.refuse 3 e) (old-differences.drawn (old-differences.place_at f at last k (c + 2))))
      go true = refl
      go false = difference-drawn to (old-differences.place_at f at last k (c + 2))

  difference-begun : on (run_of differences s at) difference_goes_on ≡ difference_next to (old-differences.begun s at last (read_signed s at))
  unfolding run_of old-differences.begun difference_next when◌then◌else◌ on signed_as
  difference-begun = rw (signed_is s at) (go (read_signed s at))
    where
      run : (out even : Bool) (k e : ℕ) → on (on ((when out then refuse 3 at else when even then done 1 else count s 2) e) (λ n. done (k, some n))) difference_goes_on
          ≡ difference_next to (pick out (old-differences.refuse 3 at)
          (pick even (old-differences.drawn (old-differences.place_at e at last k 1)) (old-differences.counted at last k e (read_unsigned s e))))
      run true even k e = refl
      run false true k e = difference-drawn to (old-differences.place_at e at last k 1)
      run false false k e = rw (count-is s 2 e) (difference-counted k e (read_unsigned s e))

      go : (r : Signed)
          → on (on (signed_as r) (λ (m, x) e. on ((when ltb max_clock (when m then x - 1 else x) then refuse 3 at else when eqb (x % 2) 0 then done 1 else count s 2) e)
          (λ n. done (when m then no_rise - (x + 1) / 2 else no_rise + x / 2, some n)))) difference_goes_on
          ≡ difference_next to (old-differences.begun s at last r)
      go (signs.Value m x e) = rw (outside-is m x, key-is m x) (run (old-differences.outside m x) (eqb (x % 2) 0) (old-differences.key_read m x) e)
      go (signs.Wrong why) = refl

pub differences-is : (u : List ℕ) (c : Differences)
    → draw u (differences_as c) ≡ difference_next c.to (old-differences.next_difference (take c.to u) c.place)
unfolding draw goes_on old-differences.next_difference when◌then◌else◌
differences-is u c = go (ltb 0 c.place.count) refl
  where
    go : (b : Bool) → ltb 0 c.place.count ≡ b
        → draw u (differences_as c) ≡ difference_next c.to (old-differences.next_difference (take c.to u) c.place)
    go true e = rw e (difference-drawn c.to c.place)
    go false e = rw e (difference-begun (take c.to u) c.to c.place.at c.place.last)

-- ---- bytes

module _ (s : List ℕ) (to at last : ℕ) where
  abbrev byte_goes_on : ℕ × Option ℕ → ℕ → Got Lane ℕ
  byte_goes_on (x, n) e = next_in octets (lane octets e to at last x n)

  byte-counted : (b e : ℕ) (r : Read) → on (on (count_as 1 e r) (λ n. done (b, some n))) byte_goes_on ≡ byte_next to (old-bytes.counted at b e r)
  unfolding on count_as old-bytes.counted byte_next when◌then◌else◌ next_in fewer
  byte-counted b e (read.Refused why) = refl
  byte-counted b e (read.Number c f) = go (ltb max_count c)
    where
      one_less : c + 1 - 1 ≡ c
      one_less = omega arith

      go : (over : Bool) → on (on (when over then refused 3 e else got (c + 1) f) (λ n. done (b, some n))) byte_goes_on
          ≡ byte_next to (pick over (old-bytes.refuse 3 e) (byte-answer.Next b (old-bytes.place_at f at b c)))
      go true = refl
      go false = rw one_less

  byte-begun : on (run_of octets s at) byte_goes_on ≡ byte_next to (old-bytes.begun s at)
  unfolding run_of byte old-bytes.begun byte_next when◌then◌else◌ on next_in fewer
  byte-begun = go (leb (length s) at) refl (leb (length s) (at + 1)) refl
    where
      go : (over : Bool) → leb (length s) at ≡ over → (last_one : Bool) → leb (length s) (at + 1) ≡ last_one
          → on (run_of octets s at) byte_goes_on ≡ byte_next to (old-bytes.begun s at)
      go true e last_one f = rw e
      go false e true f = rw (e, f)
      go false e false f = rw (e, f, count-is s 1 (at + 1)) (byte-counted (get_or s at 0) (at + 1) (read_unsigned s (at + 1)))

pub octets-is : (u : List ℕ) (c : Octets) → draw u (octets_as c) ≡ byte_next c.to (old-bytes.next_byte (take c.to u) c.place)
unfolding draw goes_on old-bytes.next_byte when◌then◌else◌ byte_next next_in fewer
octets-is u c = go c.place.endless refl (ltb 0 c.place.count) refl
  where
    go : (endless : Bool) → c.place.endless ≡ endless → (more : Bool) → ltb 0 c.place.count ≡ more
        → draw u (octets_as c) ≡ byte_next c.to (old-bytes.next_byte (take c.to u) c.place)
    go true e more f = rw e
    go false e true f = rw (e, f)
    go false e false f = rw (e, f) (byte-begun (take c.to u) c.to c.place.at c.place.last)
