-- `reports::report_counts` meets its contract: what is still to be stored leaves what all the words would leave.
use mathlib.Core.Path.{◌≡◌, ◌∙◌}
use native.Mathlib.Omega.{arith}
use Rattle.reports.proofs.Turns.{counts, turn, ended-place, ended-words}
use Rattle.reports.proofs.report_counts.Goals as goal

pub loop-i-preserved : goal.loop-i-preserved
loop-i-preserved c = let a = c.args in
    let next = turn (counts a.fronts.now) c.loop-i.invariant.0 c.loop-i-test.true in
    (rw (c.report_count-at.ensures.2, c.report_count-at.ensures.0) next, omega (arith, c.report_count-at.ensures.1))

pub returns : goal.returns
returns c = let a = c.args in
    let u = c.loop-i.invariant.0 in
    let e : c.loop-i.i ≡ a.n = omega arith in (
      ended-place (counts a.fronts.now) u e,
      c.clear_after.ensures ∙ ended-words (counts a.fronts.now) u e,
    )
