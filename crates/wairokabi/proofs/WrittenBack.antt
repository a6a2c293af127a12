-- What a public writer wrote is read back: the promise of a column writer that says 0 gives bytes that the column's reader reads as the values.
use Prim.Native.Nat.{ℕ, ◌-◌, ◌^◌, ◌<◌}
use mathlib.Core.Path.{◌≡◌, refl, sym, ap, ◌∙◌}
use mathlib.Core.Bool.{Bool, true, false}
use mathlib.Core.List.{List, []}
use lib.Dec.{eqb}
use lib.ListN.{length, take, replicate}
use lib.Seq.{take-append_seam}
use borrow.Author.Tests.{eqb-true, eqb-false}
use Rattle.numbers.specs.declared.Written.{Written}
use Rattle.numbers.specs.Number.{none}
use Rattle.numbers.specs.Output.{padded, verdict, unless_refused, written, put}
use Rattle.numbers.proofs.Output.{verdict-why}
use Rattle.columns.specs.Number as number
use Rattle.columns.specs.Difference as difference
use Rattle.columns.specs.Byte as byte
use Rattle.columns.specs.Reading.{read_numbers, read_differences, read_bytes}
use Rattle.columns.proofs.RoundTrip.{number-back, difference-back, byte-back}
use Rattle.string.proofs.TextTrip.{Texted, Gives, text-trip}
use Rattle.wairokabi.specs.Promises.{Writes, WriteNumbers, WriteDifferences, WriteBytes, WriteTexts}

-- a writer that says 0 refused nothing, and the bytes it counts are all of them
record Done (why : ℕ) (b : List ℕ) (r : Written) (x : List ℕ) : Type 0 where
  legal : why ≡ 0
  bytes : take r.bytes x ≡ b

done : (why : ℕ) (b lent : List ℕ) (r : Written) (x : List ℕ) → Writes why b lent r x → r.number ≡ 0 → Done why b r x
unfolding written put unless_refused padded
done why b lent r x p z = record { legal = why-none (eqb why 0) refl said; bytes = rw (p.0, p.1, said) (take-append_seam b (replicate (length lent - length b) 0)) }
  where
    said : verdict why (length lent) b ≡ 0
    said = sym (ap (λ (w : Written). w.number) p.0) ∙ z

    why-none : (t : Bool) → eqb why 0 ≡ t → verdict why (length lent) b ≡ 0 → why ≡ 0
    why-none true e q = eqb-true why 0 e
    why-none false e q = sym (verdict-why why (length lent) b (eqb-false why 0 e)) ∙ q

pub numbers-written-back : (lent vs : List ℕ) (r : Written) (x : List ℕ) → WriteNumbers lent vs r x → r.number ≡ 0
    → read_numbers (length vs) (take r.bytes x) (number.start_at 0) ≡ record { values = vs; refusal = none }
numbers-written-back lent vs r x p z = let d = done _ _ lent r x p z in rw d.bytes (number-back [] vs d.legal)

pub differences-written-back : (lent vs : List ℕ) (r : Written) (x : List ℕ) → WriteDifferences lent vs r x → r.number ≡ 0
    → read_differences (length vs) (take r.bytes x) (difference.start_at 0) ≡ record { values = vs; refusal = none }
differences-written-back lent vs r x p z = let d = done _ _ lent r x p z in rw d.bytes (difference-back [] vs d.legal)

pub bytes-written-back : (lent vs : List ℕ) (r : Written) (x : List ℕ) → WriteBytes lent vs r x → r.number ≡ 0
    → read_bytes (length vs) (take r.bytes x) (byte.start_at 0) ≡ record { values = vs; refusal = none }
bytes-written-back lent vs r x p z = let d = done _ _ lent r x p z in rw d.bytes (byte-back [] vs d.legal)

pub texts-written-back : (lent t us : List ℕ) (r : Written) (x : List ℕ) → length t < 2 ^ 63 → WriteTexts lent t us r x → r.number ≡ 0
    → (ts : Texted t us) × Gives (take r.bytes x) 0 ts.texts
texts-written-back lent t us r x l p z = let d = done _ _ lent r x p z in rw d.bytes (text-trip [] t us l d.legal)
