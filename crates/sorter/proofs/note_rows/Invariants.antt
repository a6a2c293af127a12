-- `sorter::note_rows`: the slots so far and the rows that are still to be noted make up the slots of all rows.
use Rattle.sorter.proofs.Noting.{Noting}
use Rattle.sorter.proofs.note_rows.Given as goal

abbrev pub invariant-loop-i : goal.invariant-loop-i
invariant-loop-i l = Noting l.initial.slots l.initial.rows l.initial.blocks l.s l.i l.slots
