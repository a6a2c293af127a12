-- `write_delete_set` meets its contract: at each turn the rows so far are written.
use mathlib.Core.Path.{◌≡◌}
use lib.ListN.{length}
use Rattle.records.specs.DeleteRows.{InLine}
use Rattle.records.proofs.Deletes.{so_far}
use Rattle.records.proofs.delete_set.write_delete_set.Given as goal

abbrev pub invariant-loop-i : goal.invariant-loop-i
invariant-loop-i l = InLine (so_far l.form l.ranges l.n l.i) l.initial.out l.initial.end l.out l.end × (length l.out ≡ length l.initial.out)
