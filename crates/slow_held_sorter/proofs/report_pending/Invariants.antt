-- `slow_held_sorter::report_pending`: what is still to be stored leaves what all the words would leave.
use Rattle.std.proofs.Common.{◌*◌, ◌≤◌}
use Rattle.slots.specs.Slots.{slots_from}
use Rattle.placing.specs.Placing.{rows_by}
use Rattle.reports.proofs.Turns.{Underway}
use Rattle.slow_held_sorter.specs.SlowHeld.{awaited_from}
use Rattle.slow_held_sorter.proofs.report_pending.Given as goal

abbrev pub invariant-loop-i : goal.invariant-loop-i
invariant-loop-i l =
    Underway (λ k us. awaited_from (slots_from l.initial.slots 0 l.initial.n) l.initial.reach l.initial.rows (rows_by l.initial.held l.initial.ranges (slots_from l.initial.slots 0 l.initial.n) l.initial.rows 0 l.initial.rows) l.initial.taken k us) l.initial.slots l.initial.n l.initial.out l.out l.at l.i
    × (l.at ≤ 3 * l.i)
