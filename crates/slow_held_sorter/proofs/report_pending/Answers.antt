-- `slow_held_sorter::report_pending` meets its contract: what is still to be stored leaves what all the words would leave.
use Rattle.std.proofs.Common.{arith, ◌≡◌, ◌∙◌, get_or}
use Rattle.slots.specs.Slots.{slot_at, slots_from}
use Rattle.reports.proofs.Turns.{begun, turn, ended-place, ended-words}
use Rattle.slow_held_sorter.proofs.Exits.{waitings, waits-most}
use Rattle.slow_held_sorter.proofs.report_pending.Goals as goal

pub loop-i-init : goal.loop-i-init
loop-i-init c =
    let r = waitings c.args.held.now c.args.ranges (slots_from c.args.slots.now 0 c.args.n) c.args.rows.now c.args.reach.now c.args.taken.now in
    (begun r c.args.slots.now c.args.n c.args.out.now, omega arith)

pub loop-i-preserved : goal.loop-i-preserved
loop-i-preserved c =
    let ss = slots_from c.args.slots.now 0 c.args.n in
    let r = waitings c.args.held.now c.args.ranges ss c.args.rows.now c.args.reach.now c.args.taken.now in
    let few = waits-most c.args.held.now c.args.ranges ss c.args.rows.now c.args.reach.now (slot_at c.args.slots.now c.loop-i.i) (get_or c.args.taken.now c.loop-i.i 0) in
    rw (c.report_front-at.ensures.0, c.report_front-at.ensures.1) (turn r c.loop-i.invariant.0 c.loop-i-test.true, omega (arith, c.loop-i.invariant.1, few))

pub returns : goal.returns
returns c =
    let r = waitings c.args.held.now c.args.ranges (slots_from c.args.slots.now 0 c.args.n) c.args.rows.now c.args.reach.now c.args.taken.now in
    let u = c.loop-i.invariant.0 in
    let e : c.loop-i.i ≡ c.args.n = omega (arith, c.loop-i.auto.i-end, c.loop-i-test.false) in
    (ended-place r u e, c.clear_after.ensures ∙ ended-words r u e)
