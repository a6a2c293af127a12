-- `summary::take_rows` meets its contract: each way out of a turn is a law of taking rows.
use Rattle.std.proofs.Common.{◌+◌, ◌-◌, ◌*◌, ◌/◌, ◌≡◌, length}
use Rattle.summary.proofs.Taking.{Taking}
use Rattle.summary.proofs.take_rows.Given as goal

abbrev pub invariant-loop-i : goal.invariant-loop-i
invariant-loop-i l =
    Taking l.s l.n (length l.initial.rows / 4) l.rows (11 + 131 * l.i) (4 * l.i) (l.n - l.i) l.above l.good × (length l.rows ≡ length l.initial.rows)
