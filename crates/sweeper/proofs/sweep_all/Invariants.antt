-- `sweeper::sweep_all`: what is still to come stays the same, if the last sweep took something.
use Rattle.std.proofs.Common.{length, ◌+◌, ◌-◌}
use Rattle.slots.specs.Slots.{slots_from}
use Rattle.sweeper.specs.Sweeper.{seen_by, board, left_below}
use Rattle.sweeper.proofs.Sweeps.{Repeating}
use Rattle.sweeper.proofs.sweep_all.Given as goal

abbrev pub invariant-loop-before : goal.invariant-loop-before
invariant-loop-before l =
    Repeating l.fn.rule (slots_from l.fn.slots 0 l.fn.n) (seen_by l.fn.numbered l.fn.held l.fn.ranges (slots_from l.fn.slots 0 l.fn.n) l.fn.rows)
    (board l.fn.reach l.fn.taken l.fn.order 0) l.before (board l.reach l.taken l.order l.steps)

-- blocks left and steps made since the last sweep but one, together
abbrev pub decreases-loop-before : goal.decreases-loop-before
decreases-loop-before l =
    (left_below (slots_from l.fn.slots 0 l.fn.n) l.taken (length (slots_from l.fn.slots 0 l.fn.n)) + l.steps) - l.before
