-- `reports::report_pending` meets its contract: what is still to be stored leaves what all the words would leave.
use mathlib.Core.Path.{◌≡◌, ◌∙◌}
use native.Mathlib.Omega.{arith}
use Rattle.reports.proofs.Turns.{pendings, turn, ended-place, ended-words}
use Rattle.reports.proofs.report_pending.Goals as goal

pub loop-i-preserved : goal.loop-i-preserved
loop-i-preserved c = let a = c.args in
    let next = turn (pendings a.fronts.now a.reach.now) c.loop-i.invariant.0 c.loop-i-test.true in
    (rw (c.report_waiting-at.ensures.2, c.report_waiting-at.ensures.0) next, omega (arith, c.report_waiting-at.ensures.1))

pub returns : goal.returns
returns c = let a = c.args in
    let u = c.loop-i.invariant.0 in
    let e : c.loop-i.i ≡ a.n = omega arith in (
      ended-place (pendings a.fronts.now a.reach.now) u e,
      c.clear_after.ensures ∙ ended-words (pendings a.fronts.now a.reach.now) u e,
    )
