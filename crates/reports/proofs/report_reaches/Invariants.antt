-- `reports::report_reaches` meets its contract: what is still to be stored leaves what all the words would leave.
use Prim.Native.Nat.{◌*◌}
use Rattle.reports.specs.Reports.{reaches_from}
use Rattle.reports.proofs.Turns.{Underway}
use Rattle.reports.proofs.report_reaches.Given as goal

abbrev pub invariant-loop-i : goal.invariant-loop-i
invariant-loop-i l = Underway (λ k ss. reaches_from k ss l.reach) l.slots l.n l.initial.out l.out (2 * l.i) l.i
