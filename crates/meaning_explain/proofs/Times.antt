-- How many values a run has: by what it is read as, and by its bytes.
use Prim.Native.Nat.{ℕ, ◌+◌, ◌-◌, ◌%◌, ◌≤◌}
use mathlib.Core.Path.{◌≡◌, refl, sym}
use mathlib.Core.Bool.{Bool, true, false}
use mathlib.Core.List.{List}
use mathlib.Core.Option.{Option, some}
use native.Mathlib.Nat.{zero-add}
use native.Mathlib.Omega.{arith}
use lib.Dec.{ltb, leb, eqb}
use lib.ListN.{length, get_or, drop_of_length-le}
use borrow.Author.Tests.{ltb-false, leb-true, leb-false, le-ltb}
use Rattle.numbers.specs.declared.Read.{Read}
use Rattle.numbers.specs.declared.Read.TheVariants as read
use Rattle.numbers.specs.declared.Signed.{Signed}
use Rattle.numbers.specs.declared.Signed.TheVariants as signs
use Rattle.numbers.specs.Number.{pick, answer_at, spelt, read_unsigned, read_signed}
use Rattle.numbers.specs.Limits.{max_clock, max_count}
use Rattle.columns.specs.declared.difference.Place.{Place}
use Rattle.columns.specs.declared.difference.Answer.{Answer}
use Rattle.columns.specs.declared.difference.Answer.TheVariants as difference
use Rattle.runs.specs.Difference.{zero_key}
use Rattle.columns.specs.Difference as old
use Rattle.origins.specs.Origins.{times_read, number_times, difference_times, byte_times}
use Rattle.meaning.specs.Reads.{when◌then◌else◌, Got, on, done, refuse}
use Rattle.meaning.specs.Line.{raised, byte}
use Rattle.meaning.specs.Columns.{numbers, differences, octets, count, run_of}
use Rattle.meaning.specs.Reads.{comes_to}
use Rattle.meaning.specs.Columns.{often}
use Rattle.meaning.specs.Alike.{read_as, signed_as}
use Rattle.meaning.proofs.Line.{unsigned_is, signed_is}

-- of a run that was read, how often it stands
abbrev pub often_of : Got ℕ (ℕ × Option ℕ) → ℕ
often_of r = comes_to (λ x _. often x.1) (λ _. 0) r

-- ---- a count

count-times : (s : List ℕ) (x more at : ℕ) → often_of (on (count s more at) (λ n. done (x, some n))) ≡ times_read more (read_unsigned s at)
unfolding count raised on comes_to read_as when◌then◌else◌ times_read
count-times s x more at = rw (unsigned_is s at) (go (read_unsigned s at))
  where
    test : (b : Bool) (c f : ℕ)
        → often_of (on (on ((when b then refuse 3 at else done c) f) (λ c. done (c + more))) (λ n. done (x, some n))) ≡ pick b 0 (c + more)
    test true c f = refl
    test false c f = refl

    go : (r : Read)
        → often_of (on (on (on (read_as r) (λ v. when ltb max_count (0 + v) then refuse 3 at else done (0 + v))) (λ c. done (c + more))) (λ n. done (x, some n)))
        ≡ times_read more r
    go (read.Number c f) = rw (zero-add c) (test (ltb max_count c) c f)
    go (read.Refused why) = refl

-- ---- numbers

pub number-times : (s : List ℕ) (at : ℕ) → often_of (run_of numbers s at) ≡ number_times s (read_signed s at)
unfolding run_of on signed_as when◌then◌else◌ number_times comes_to
number-times s at = rw (signed_is s at) (go (read_signed s at))
  where
    go : (r : Signed) → often_of (on (signed_as r) (λ (m, x) e. on ((when m then count s 2 else done 1) e) (λ n. done (x, some n)))) ≡ number_times s r
    go (signs.Value true x e) = count-times s x 2 e
    go (signs.Value false x e) = refl
    go (signs.Wrong why) = refl

-- ---- bytes

-- nothing is read behind the end
none-there : (s : List ℕ) (more at : ℕ) → length s ≤ at → times_read more (read_unsigned s at) ≡ 0
unfolding times_read read_unsigned spelt answer_at
none-there s more at h = rw (drop_of_length-le s h)

pub byte-times : (s : List ℕ) (at : ℕ) → often_of (run_of octets s at) ≡ byte_times s at
unfolding run_of byte on when◌then◌else◌ byte_times comes_to
byte-times s at = go (leb (length s) at) refl (leb (length s) (at + 1)) refl
  where
    go : (over : Bool) → leb (length s) at ≡ over → (last : Bool) → leb (length s) (at + 1) ≡ last → often_of (run_of octets s at) ≡ byte_times s at
    go true e last f = rw e (sym (none-there s 1 (at + 1) (omega (arith, leb-true (length s) at e))))
    go false e true f = rw (e, f) (sym (none-there s 1 (at + 1) (leb-true (length s) (at + 1) f)))
    go false e false f = rw (e, f) (count-times s (get_or s at 0) 1 (at + 1))

-- ---- differences: those that are accepted

module _ (s : List ℕ) where
  abbrev pub Agree : ℕ → Type 0
  Agree at = often_of (run_of differences s at) ≡ difference_times s (read_signed s at)

  -- of a run under way
  abbrev pub Fair : Place → Type 0
  Fair c = ltb 0 c.count ≡ true → Agree c.from

  unfoldable pub After : Answer → Type 0
  After (difference.Next v d) = Agree d.from
  After (difference.Bad why) = Unit {0}

  inside : (m : Bool) (x : ℕ) → old.outside m x ≡ false → ltb max_clock (when m then x - 1 else x) ≡ false
  unfolding old.outside when◌then◌else◌
  inside true x e = le-ltb max_clock (x - 1) (omega (arith, ltb-false 2147483648 x e))
  inside false x e = le-ltb max_clock x (omega (arith, leb-false 2147483648 x e))

  agree_at : (at : ℕ) (m : Bool) (x e : ℕ) → read_signed s at ≡ signs.Value m x e → old.outside m x ≡ false → Agree at
  unfolding run_of on signed_as when◌then◌else◌ difference_times comes_to
  agree_at at m x e r within = rw (signed_is s at, r, inside m x within) (go (eqb (x % 2) 0) _)
    where
      go : (even : Bool) (k : ℕ) → often_of (on ((when even then done 1 else count s 2) e) (λ n. done (k, some n))) ≡ pick even 1 (times_read 2 (read_unsigned s e))
      go true k = refl
      go false k = count-times s k 2 e

  drawn-agrees : (c : Place) → Agree c.from → After (old.drawn c)
  unfolding After old.drawn
  drawn-agrees c h = go (ltb (c.last + c.key) zero_key) (ltb max_clock (c.last + c.key - zero_key))
    where
      go : (b o : Bool)
          → After (pick b (old.refuse 3 c.from) (pick o (old.refuse 3 c.from) (difference.Next (c.last + c.key - zero_key)
          (old.place_at c.at c.from (c.last + c.key - zero_key) c.key (c.count - 1)))))
      go true o = tt
      go false true = tt
      go false false = h

  counted-agrees : (from last key e : ℕ) → Agree from → (r : Read) → After (old.counted from last key e r)
  unfolding After old.counted
  counted-agrees from last key e h (read.Refused why) = tt
  counted-agrees from last key e h (read.Number n f) = go (ltb max_count n)
    where
      go : (b : Bool) → After (pick b (old.refuse 3 e) (old.drawn (old.place_at f from last key (n + 2))))
      go true = tt
      go false = drawn-agrees (old.place_at f from last key (n + 2)) h

  begun-agrees : (at last : ℕ) (r : Signed) → read_signed s at ≡ r → After (old.begun s at last r)
  unfolding After old.begun
  begun-agrees at last (signs.Wrong why) q = tt
  begun-agrees at last (signs.Value m x e) q = go (old.outside m x) refl (eqb (x % 2) 0)
    where
      go : (b : Bool) → old.outside m x ≡ b → (o : Bool)
          → After (pick b (old.refuse 3 at)
          (pick o (old.drawn (old.place_at e at last (old.key_read m x) 1)) (old.counted at last (old.key_read m x) e (read_unsigned s e))))
      go true f o = tt
      go false f true = drawn-agrees (old.place_at e at last (old.key_read m x) 1) (agree_at at m x e q f)
      go false f false = counted-agrees at last (old.key_read m x) e (agree_at at m x e q f) (read_unsigned s e)

  pub next-agrees : (c : Place) → Fair c → After (old.next_difference s c)
  unfolding old.next_difference
  next-agrees c fair = go (ltb 0 c.count) refl
    where
      go : (b : Bool) → ltb 0 c.count ≡ b → After (pick b (old.drawn c) (old.begun s c.at c.last (read_signed s c.at)))
      go true e = drawn-agrees c (fair e)
      go false e = begun-agrees c.at c.last (read_signed s c.at) refl
