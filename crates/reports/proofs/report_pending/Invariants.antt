-- `reports::report_pending` meets its contract: what is still to be stored leaves what all the words would leave.
use Prim.Native.Nat.{◌*◌, ◌≤◌}
use Rattle.reports.specs.Reports.{pending_from}
use Rattle.reports.proofs.Turns.{Underway}
use Rattle.reports.proofs.report_pending.Given as goal

abbrev pub invariant-loop-i : goal.invariant-loop-i
invariant-loop-i l = Underway (λ k ss. pending_from k ss l.fronts l.reach) l.slots l.n l.initial.out l.out l.at l.i × (l.at ≤ 3 * l.i)
