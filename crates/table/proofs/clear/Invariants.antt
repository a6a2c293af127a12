-- `table::clear` meets its contract: a turn fills one row more, and at the end there is none left to fill.
use Rattle.std.proofs.Common.{◌≡◌, length}
use Rattle.table.specs.Rows.{filled_from}
use Rattle.table.proofs.clear.Given as goal

abbrev pub invariant-loop-i : goal.invariant-loop-i
invariant-loop-i l = (filled_from l.i l.none l.rows ≡ filled_from l.from l.none l.initial.rows) × (length l.rows ≡ length l.initial.rows)
