-- What `write_summary` and `read_summary` promise: a summary, bit by bit, is a version, a row count, then a row a client, highest client first;
-- zeros fill the last byte.
use Rattle.std.specs.Prelude.{ℕ, zero, suc, ◌-◌, ◌/◌, ◌^◌, ◌≡◌, Bool, true, ◌&&◌, List, [], ◌∷◌, ◌++◌, ltb, leb, eqb, length, drop}
use Rattle.numbers.specs.Number.{none}
use Rattle.numbers.specs.Output.{padded}
use Rattle.bits.specs.Bits.{in_bits, value_of, packed}
use Rattle.summary.specs.Rows.{Row}
use Rattle.gathered.specs.RowsOf.{rows_of}
use Rattle.summaries.specs.declared.Summarized.{Summarized}
use Rattle.summaries.specs.declared.SummaryRows.{SummaryRows}
use Rattle.meaning.specs.Reads.{when◌then◌else◌, Reads, got, refused, on, ◌>>=◌, done, refuse, here}
use Rattle.meaning.specs.Reads.{comes_to}
use Rattle.meaning_calls.specs.Reading.{all_of}
use Rattle.meaning_written.specs.Diff.{each}

-- ---- written

unfoldable pub row_bits : Row → List Bool
row_bits r = in_bits 53 r.client ++ (in_bits 31 r.first ++ (in_bits 31 r.end ++ in_bits 16 r.blocks))

unfoldable pub summary_of : List Row → List ℕ
summary_of rs = packed (in_bits 4 1 ++ (in_bits 7 (length rs) ++ each row_bits rs))

abbrev pub WriteSummary : ℕ → List ℕ → List ℕ → Summarized → List ℕ → Type 0
WriteSummary form u lent r x =
    let made = on (all_of form u) (λ y s. let b = summary_of (rows_of y.0) in when ltb (length lent) (length b) then refused 10 0 else got b s) in
    (r ≡ comes_to (λ b _. record { refusal = none; bytes = length b }) (λ why. record { refusal = why; bytes = 0 }) made)
    × (x ≡ padded (length lent) (comes_to (λ b _. b) (λ _. []) made))

-- ---- read, from the bits that are left; no byte is blamed

-- a number of k bits, 1 where there are not so many
unfoldable pub bit_number : ℕ → Reads (List Bool) ℕ
bit_number k s = when ltb (length s) k then refused 1 0 else got (value_of k s) (drop k s)

unfoldable pub must : Bool → ℕ → Reads (List Bool) (Unit {0})
must holds n = when holds then done tt else refuse n 0

unfoldable pub a_row : Reads (List Bool) Row
a_row = do
  c ← bit_number 53
  f ← bit_number 31
  e ← bit_number 31
  n ← bit_number 16
  done (record { client = c; first = f; end = e; blocks = n })

-- n rows into so many lent: 8 where a row is complete and none is left for it
unfoldable pub some_rows : ℕ → ℕ → Reads (List Bool) (List Row)
some_rows zero room = done []
some_rows (suc n) room = do
  r ← a_row
  _ ← must (ltb 0 room) 8
  rs ← some_rows n (room - 1)
  done (r ∷ rs)

-- each client below the one before it, some blocks, and no first clock above the last end
unfoldable pub in_order : ℕ → List Row → Bool
in_order above [] = true
in_order above (r ∷ rs) = ltb r.client above && (ltb 0 r.blocks && (leb r.first r.end && in_order r.client rs))

-- an unknown version is 16, a row count over 64 is 3, and last of all 17: rows out of order, or more behind them than zeros in the last byte
unfoldable pub rows_in : ℕ → Reads (List Bool) (List Row)
rows_in room = do
  version ← bit_number 4
  _ ← must (eqb version 1) 16
  n ← bit_number 7
  _ ← must (leb n 64) 3
  rs ← some_rows n room
  left ← here
  _ ← must (in_order (2 ^ 53) rs && (ltb (length left) 8 && eqb (value_of (length left) left) 0)) 17
  done rs

-- four words a row
abbrev pub ReadSummary : List ℕ → List ℕ → SummaryRows → List ℕ → Type 0
ReadSummary s lent r x =
    let found = rows_in (length lent / 4) (each (in_bits 8) s) in
    (r ≡ comes_to (λ rs _. record { refusal = none; count = length rs }) (λ why. record { refusal = why; count = 0 }) found)
    × (x ≡ padded (length lent) (comes_to (λ rs _. each (λ (r : Row). r.client ∷ r.first ∷ r.end ∷ r.blocks ∷ []) rs) (λ _. []) found))
