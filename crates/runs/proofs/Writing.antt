-- The laws that the writers go by: how a run is spelled, one value more, and what a state stands for.
use Prim.Native.Nat.{ℕ, zero, suc, ◌+◌, ◌-◌, ◌≤◌, ◌<◌}
use mathlib.Core.Path.{◌≡◌, refl, sym, ap, ◌∙◌}
use mathlib.Core.List.{[], ◌++◌, append-nil}
use mathlib.Core.Bool.{Bool, true, false}
use native.Mathlib.Nat.{add-zero}
use native.Mathlib.Omega.{arith}
use lib.Dec.{ltb, eqb}
use lib.ListN.{length, length-append}
use borrow.Author.Tests.{eq-eqb, ne_eqb, eqb-false, lt-ltb}
use Rattle.numbers.specs.Number.{pick, unsigned, signed}
use Rattle.runs.specs.declared.ColumnKind.{ColumnKind}
use Rattle.runs.specs.declared.ColumnKind.TheVariants.{Number, Difference, Byte}
use Rattle.runs.specs.declared.writer.Writer.{Writer}
use Rattle.runs.specs.Number as number
use Rattle.runs.specs.Difference as difference
use Rattle.runs.specs.Byte as byte
use Rattle.runs.specs.Runs.{coding, column}
use Rattle.runs.specs.RunsInner.{key_most, signed_run}
use Rattle.runs.specs.Writer.{ends, key_after, emitted, finished, moved, pushed}

-- ---- how a run is spelled

module _ (m : Bool) (x n : ℕ) where
  pub run-one : n ≡ 0 → signed_run m x n ≡ signed m x
  unfolding signed_run
  run-one e = rw (eq-eqb n 0 e) (append-nil (signed m x))

  pub run-many : (n ≡ 0 → ⊥) → signed_run m x n ≡ signed m x ++ unsigned (n - 1)
  unfolding signed_run
  run-many e = rw (ne_eqb n 0 e)

  pub run-many-length : (n ≡ 0 → ⊥) → length (signed_run m x n) ≡ length (signed m x) + length (unsigned (n - 1))
  run-many-length e = ap length (run-many e) ∙ length-append (signed m x) (unsigned (n - 1))

  pub run-head : length (signed m x) ≤ length (signed_run m x n)
  unfolding signed_run
  run-head = omega (arith, length-append (signed m x) (pick (eqb n 0) [] (unsigned (n - 1))))

-- the number column: minus where the value stands more than once
pub number-run : (v n : ℕ) → number.run_bytes v n ≡ signed_run (ltb 0 n) v n
unfolding number.run_bytes signed_run
number-run v zero = sym (append-nil (signed false v))
number-run v (suc n) = rw (ne_eqb (suc n) 0 (λ e. omega arith), lt-ltb 0 (suc n) (omega arith))

-- the difference column: odd where it applies more than once
pub difference-run : (k n : ℕ) → difference.run_bytes k n ≡ signed_run (ltb k difference.zero_key) (difference.magnitude k (difference.odd n)) n
unfolding difference.run_bytes difference.odd signed_run
difference-run k zero = sym (append-nil (signed (ltb k difference.zero_key) (difference.magnitude k 0)))
difference-run k (suc n) = rw (ne_eqb (suc n) 0 (λ e. omega arith))

pub byte-length : (k n : ℕ) → length (byte.run_bytes k n) ≡ 1 + length (unsigned n)
unfolding byte.run_bytes
byte-length k n = omega arith

-- ---- one value more, case by case

module _ (k : ℕ) (w : Writer) where
  pub ends-none : w.count ≡ 0 → ends k w ≡ false
  unfolding ends
  ends-none e = rw (eq-eqb w.count 0 e)

  pub ends_same : (w.count ≡ 0 → ⊥) → k ≡ w.key → ends k w ≡ false
  unfolding ends
  ends_same ne e = rw (ne_eqb w.count 0 ne, eq-eqb k w.key e)

  pub ends-other : (w.count ≡ 0 → ⊥) → (k ≡ w.key → ⊥) → ends k w ≡ true
  unfolding ends
  ends-other ne e = rw (ne_eqb w.count 0 ne, ne_eqb k w.key e)

  pub ends_some : ends k w ≡ true → 0 < w.count
  unfolding ends
  ends_some h = go (eqb w.count 0) refl h
    where
      go : (b : Bool) → eqb w.count 0 ≡ b → pick b false (pick (eqb k w.key) false true) ≡ true → 0 < w.count
      go true e h = let z : ◌≡◌ {A = ℕ} 0 1 = cc in absurd (omega arith)
      go false e h = let ne = eqb-false w.count 0 e in omega arith

module _ (w : Writer) (v k : ℕ) (same : k ≡ key_after w v) where
  pub emitted-none : ends k w ≡ false → emitted w v ≡ []
  unfolding emitted
  emitted-none e = rw (← same, e)

  pub emitted-some : ends k w ≡ true → emitted w v ≡ (coding w.column).spell w.key (w.count - 1)
  unfolding emitted
  emitted-some e = rw (← same, e)

  pub pushed_none : ends k w ≡ false → moved w w.at k v ≡ pushed w v
  unfolding pushed
  pushed_none e = rw (emitted-none e, add-zero, same)

  pub pushed-some : (at : ℕ) → at ≡ w.at + length (emitted w v) → moved w at k v ≡ pushed w v
  unfolding pushed
  pushed-some at p = rw (same, p)

module _ (w : Writer) where
  pub finished-none : w.count ≡ 0 → finished w ≡ []
  unfolding finished
  finished-none e = rw (eq-eqb w.count 0 e)

  pub finished-some : (w.count ≡ 0 → ⊥) → finished w ≡ (coding w.column).final w.key (w.count - 1)
  unfolding finished
  finished-some e = rw (ne_eqb w.count 0 e)

-- the columns' rules, as the code tests them
pub most-byte : (coding Byte).most ≡ 255
unfolding coding
most-byte = refl

-- a key of two values within the limit
pub key-most : (col : ColumnKind) (p v : ℕ) → v ≤ (coding col).most → (coding col).key_of p v ≤ key_most col
unfolding coding key_most
key-most Number p v h = h
key-most Difference p v h = omega arith
key-most Byte p v h = h
