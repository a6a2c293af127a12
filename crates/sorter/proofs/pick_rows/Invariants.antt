-- `sorter::pick_rows`: the looks made and those that are left make up all looks.
use Rattle.slots.specs.Slots.{slots_from}
use Rattle.sorter.proofs.Looking.{Looking}
use Rattle.sorter.proofs.pick_rows.Given as goal

abbrev pub invariant-loop-p : goal.invariant-loop-p
invariant-loop-p l = Looking l.initial.rule l.initial.rows l.initial.blocks (slots_from l.initial.slots 0 l.initial.n) l.initial.reach l.initial.fronts l.initial.order l.p l.reach l.fronts l.order

abbrev pub decreases-loop-p : goal.decreases-loop-p
decreases-loop-p l = l.p.left
