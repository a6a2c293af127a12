-- `sweeper::sweep`: what is still to be swept stays the same, the first i slots.
use Rattle.slots.specs.Slots.{slots_from}
use Rattle.sweeper.specs.Sweeper.{seen_by, board}
use Rattle.sweeper.proofs.Sweeps.{Sweeping}
use Rattle.sweeper.proofs.sweep.Given as goal

abbrev pub invariant-loop-i : goal.invariant-loop-i
invariant-loop-i l =
    Sweeping l.fn.rule (slots_from l.fn.slots 0 l.fn.n) (seen_by l.fn.numbered l.fn.held l.fn.ranges (slots_from l.fn.slots 0 l.fn.n) l.fn.rows)
    (board l.fn.reach l.fn.taken l.fn.order l.fn.steps) l.i (board l.reach l.taken l.order l.steps)
