-- How long lanes can be: a run has at most 21 bytes, so a lane has at most 21 for each value or byte that it takes.
use Prim.Native.Nat.{ℕ, suc, ◌+◌, ◌-◌, ◌*◌, ◌/◌, ◌%◌, ◌≤◌}
use mathlib.Core.Path.{◌≡◌, ap}
use mathlib.Core.List.{List, [], ◌∷◌, ◌++◌}
use mathlib.Core.Bool.{Bool, true, false}
use native.Mathlib.Omega.{arith}
use lib.Dec.{ltb, eqb}
use lib.ListN.{length, length-append}
use Rattle.numbers.specs.Number.{pick, unsigned, signed}
use Rattle.numbers.proofs.Laws.{unsigned-le}
use Rattle.runs.specs.declared.ColumnKind.{ColumnKind}
use Rattle.runs.specs.declared.ColumnKind.TheVariants.{Number, Difference, Byte}
use Rattle.runs.specs.declared.writer.Writer.{Writer}
use Rattle.runs.specs.Runs.{coding, runs_on, runs_after, column, column_of}
use Rattle.runs.specs.RunsInner.{signed_run}
use Rattle.runs.specs.Difference.{zero_key, magnitude, odd}
use Rattle.runs.specs.Writer.{ends, key_after, emitted}
use Rattle.runs.proofs.Writing.{number-run, difference-run, byte-length}
use Rattle.tokens.specs.Tokens.{Token, taken_all, in_line, column_in, lane}

signed_le : (m : Bool) (x : ℕ) → length (signed m x) ≤ 11
unfolding signed
signed_le m x = go (ltb x 64)
  where
    go : (b : Bool) → length (pick b ((x + pick m 64 0) ∷ []) ((x % 64 + pick m 64 0 + 128) ∷ unsigned (x / 64))) ≤ 11
    go true = omega arith
    go false = omega (arith, unsigned-le (x / 64))

run-le : (m : Bool) (x n : ℕ) → length (signed_run m x n) ≤ 21
unfolding signed_run
run-le m x n = omega (arith, length-append (signed m x) (pick (eqb n 0) [] (unsigned (n - 1))), signed_le m x, go (eqb n 0))
  where
    go : (b : Bool) → length (pick b [] (unsigned (n - 1))) ≤ 10
    go true = omega arith
    go false = unsigned-le (n - 1)

pub spell-le : (col : ColumnKind) (k n : ℕ) → length ((coding col).spell k n) ≤ 21
unfolding coding
spell-le Number k n = omega (arith, ap length (number-run k n), run-le (ltb 0 n) k n)
spell-le Difference k n = omega (arith, ap length (difference-run k n), run-le (ltb k zero_key) (magnitude k (odd n)) n)
spell-le Byte k n = omega (arith, byte-length k n, unsigned-le n)

pub final-le : (col : ColumnKind) (k n : ℕ) → length ((coding col).final k n) ≤ 21
unfolding coding
final-le Number k n = spell-le Number k n
final-le Difference k n = spell-le Difference k n
final-le Byte k n = omega arith

pub emitted-le : (w : Writer) (v : ℕ) → length (emitted w v) ≤ 21
unfolding emitted
emitted-le w v = go (ends (key_after w v) w)
  where
    go : (b : Bool) → length (pick b ((coding w.column).spell w.key (w.count - 1)) []) ≤ 21
    go true = spell-le w.column w.key (w.count - 1)
    go false = omega arith

over-le : (col : ColumnKind) (p k n : ℕ) (vs : List ℕ) → length (runs_on (coding col) p k n vs) ≤ 21 * suc (length vs)
unfolding runs_on
over-le col p k n [] = omega (arith, final-le col k n)
over-le col p k n (v ∷ vs) = go (eqb ((coding col).key_of p v) k) (λ p k n. over-le col p k n vs)
  where
    go : (b : Bool) → ((p k n : ℕ) → length (runs_on (coding col) p k n vs) ≤ 21 * suc (length vs))
        → length (pick b (runs_on (coding col) v k (n + 1) vs) ((coding col).spell k n ++ runs_on (coding col) v ((coding col).key_of p v) 0 vs)) ≤ 21 * suc (length (v ∷ vs))
    go true more = omega (arith, more v k (n + 1))
    go false more =
        let next = (coding col).key_of p v in
        omega (arith, length-append ((coding col).spell k n) (runs_on (coding col) v next 0 vs), spell-le col k n, more v next 0)

pub column-le : (col : ColumnKind) (vs : List ℕ) → length (column_of col vs) ≤ 21 * length vs
unfolding column runs_after
column-le col [] = omega arith
column-le col (v ∷ vs) = over-le col v ((coding col).key_of 0 v) 0 vs

-- a lane's bytes
module _ (k : ℕ) (ts : List Token) where
  pub lane-line : in_line k ≡ true → lane k ts ≡ taken_all k ts
  unfolding lane
  lane-line h = rw h

  pub lane-column : in_line k ≡ false → lane k ts ≡ column_of (column_in k) (taken_all k ts)
  unfolding lane
  lane-column h = rw h

  pub lane-le : length (lane k ts) ≤ 21 * length (taken_all k ts)
  unfolding lane
  lane-le = go (in_line k)
    where
      go : (b : Bool) → length (pick b (taken_all k ts) (column_of (column_in k) (taken_all k ts))) ≤ 21 * length (taken_all k ts)
      go true = omega arith
      go false = column-le (column_in k) (taken_all k ts)
