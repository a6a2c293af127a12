-- `held_sorter::pick_chained`: the looks made and those that are left make up all looks.
use Rattle.slots.specs.Slots.{slots_from}
use Rattle.held_sorter.proofs.Exits.{Looks}
use Rattle.held_sorter.proofs.pick_chained.Given as goal

abbrev pub invariant-loop-p : goal.invariant-loop-p
invariant-loop-p l = Looks l.initial.held l.initial.ranges (slots_from l.initial.slots 0 l.initial.n) l.initial.rows l.initial.blocks l.initial.reach l.initial.fronts l.initial.order l.p l.reach l.fronts l.order

abbrev pub decreases-loop-p : goal.decreases-loop-p
decreases-loop-p l = l.p.left
