-- `sweep_reports::report_counts` meets its contract: what is still to be stored leaves what all the words would leave.
use mathlib.Core.Path.{◌≡◌, ◌∙◌}
use native.Mathlib.Omega.{arith}
use Rattle.reports.proofs.Turns.{begun, turn, ended-place, ended-words}
use Rattle.sweep_reports.proofs.Turns.{counts}
use Rattle.sweep_reports.proofs.report_counts.Goals as goal

pub loop-i-init : goal.loop-i-init
loop-i-init c = let a = c.args in
    (begun (counts a.taken.now) a.slots.now a.n a.out.now, omega arith)

pub loop-i-preserved : goal.loop-i-preserved
loop-i-preserved c = let a = c.args in
    let next = turn (counts a.taken.now) c.loop-i.invariant.0 (omega arith) in
    (rw (c.report_count-at.ensures.2, c.report_count-at.ensures.0) next, omega (arith, c.report_count-at.ensures.1, c.loop-i.invariant.1))

pub returns : goal.returns
returns c = let a = c.args in
    let u = c.loop-i.invariant.0 in
    let e : c.loop-i.i ≡ a.n = omega arith in (
      ended-place (counts a.taken.now) u e,
      c.clear_after.ensures ∙ ended-words (counts a.taken.now) u e,
    )
