-- `sweep_reports::report_pending`: the words so far and those of the slots that are left make up all words.
use Prim.Native.Nat.{◌*◌, ◌≤◌}
use Rattle.slots.specs.Slots.{slots_from}
use Rattle.reports.proofs.Turns.{Underway}
use Rattle.sweep_reports.specs.Reports.{waits_from}
use Rattle.sweep_reports.proofs.report_pending.Given as goal

abbrev pub invariant-loop-i : goal.invariant-loop-i
invariant-loop-i l = Underway (λ k rest. waits_from k l.rule (slots_from l.slots 0 l.n) l.rows l.reach l.taken rest) l.slots l.n l.initial.out l.out l.at l.i × (l.at ≤ 3 * l.i)
