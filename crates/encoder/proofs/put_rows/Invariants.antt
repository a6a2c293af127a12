-- `put_rows`: the rows that are written, and those before the cursor, are those that the plan names; after each turn fewer are before it.
use Rattle.std.proofs.Common.{length}
use Rattle.encoder.proofs.Cursors.{stops_at}
use Rattle.encoder.proofs.Rows.{Going}
use Rattle.encoder.proofs.put_rows.Given as goal

abbrev pub invariant-loop-c : goal.invariant-loop-c
invariant-loop-c l = Going l.form l.initial.out l.initial.lanes l.at l.update l.rows l.plan l.sections l.c l.out l.lanes l.end

abbrev pub decreases-loop-c : goal.decreases-loop-c
decreases-loop-c l = length (stops_at l.rows l.plan l.sections l.c)
