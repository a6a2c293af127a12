-- `sweeper::drain`: what is still to be drained stays the same, and the row is that of the client's next front.
use Rattle.slots.specs.Slots.{slots_from}
use Rattle.sweeper.specs.Sweeper.{seen_by, board, left_at}
use Rattle.sweeper.proofs.Sweeps.{Draining}
use Rattle.sweeper.proofs.drain.Given as goal

abbrev pub invariant-loop-row : goal.invariant-loop-row
invariant-loop-row l =
    Draining l.fn.rule (slots_from l.fn.slots 0 l.fn.n) (seen_by l.fn.numbered l.fn.held l.fn.ranges (slots_from l.fn.slots 0 l.fn.n) l.fn.rows)
    (board l.fn.reach l.fn.taken l.fn.order l.fn.steps) l.fn.i l.row (board l.reach l.taken l.order l.steps)

-- how many blocks of the client are left
abbrev pub decreases-loop-row : goal.decreases-loop-row
decreases-loop-row l = left_at (slots_from l.fn.slots 0 l.fn.n) l.taken l.fn.i
