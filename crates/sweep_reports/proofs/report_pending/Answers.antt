-- `sweep_reports::report_pending` meets its contract: what is still to be stored leaves what all the words would leave.
use mathlib.Core.Path.{◌≡◌, ◌∙◌}
use native.Mathlib.Omega.{arith}
use lib.ListN.{get_or}
use Rattle.slots.specs.Slots.{slot_at, slots_from}
use Rattle.reports.proofs.Turns.{begun, turn, ended-place, ended-words}
use Rattle.sweep_reports.proofs.Words.{waits-most}
use Rattle.sweep_reports.proofs.Turns.{waits}
use Rattle.sweep_reports.proofs.report_pending.Goals as goal

pub loop-i-init : goal.loop-i-init
loop-i-init c = let a = c.args in
    (begun (waits a.rule (slots_from a.slots.now 0 a.n) a.rows.now a.reach.now a.taken.now) a.slots.now a.n a.out.now, omega arith)

pub loop-i-preserved : goal.loop-i-preserved
loop-i-preserved c = let a = c.args in
    let next = turn (waits a.rule (slots_from a.slots.now 0 a.n) a.rows.now a.reach.now a.taken.now) c.loop-i.invariant.0 (omega arith) in
    (rw (c.report_front-at.ensures.1, c.report_front-at.ensures.0) next, rw c.report_front-at.ensures.0 (omega (arith, c.loop-i.invariant.1, waits-most a.rule (slots_from a.slots.now 0 a.n) a.reach.now a.rows.now (slot_at a.slots.now c.loop-i.i) (get_or a.taken.now c.loop-i.i 0))))

pub returns : goal.returns
returns c = let a = c.args in
    let u = c.loop-i.invariant.0 in
    let e : c.loop-i.i ≡ a.n = omega arith in
    let r = waits a.rule (slots_from a.slots.now 0 a.n) a.rows.now a.reach.now a.taken.now in
    (ended-place r u e, c.clear_after.ensures ∙ ended-words r u e)
