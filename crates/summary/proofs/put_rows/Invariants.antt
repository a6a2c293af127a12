-- `summary::put_rows` meets its contract: whatever the rows left make of the bytes here, all rows make of the bytes as they were.
use Rattle.std.proofs.Common.{ℕ, ◌+◌, ◌-◌, ◌*◌, ◌≡◌, List, length, drop}
use Rattle.bits.specs.Places.{Adds}
use Rattle.summary.specs.Summary.{rows_bits}
use Rattle.summary.specs.WordsInner.{rows_in}
use Rattle.summary.proofs.put_rows.Given as goal

abbrev pub invariant-loop-i : goal.invariant-loop-i
invariant-loop-i l =
    ((t : List ℕ) → Adds (11 + 131 * l.i) (rows_bits (rows_in (l.n - l.i) (drop (4 * l.i) l.rows))) l.out t → Adds 11 (rows_bits (rows_in l.n l.rows)) l.initial.out t)
    × (length l.out ≡ length l.initial.out)
