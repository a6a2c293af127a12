-- `held_sorter::pick_chained` meets its contract: a look after the other, at rows that hang only on what is not met.
use Rattle.std.proofs.Common.{arith, ap}
use Rattle.slots.specs.Slots.{slots_from}
use Rattle.slots.proofs.Words.{slots_length}
use Rattle.picker.specs.Picker.{Desk}
use Rattle.held_sorter.proofs.Exits.{look-begins, light-turns, light-falls, look-ended}
use Rattle.held_sorter.proofs.pick_chained.Goals as goal

pub loop-p-init : goal.loop-p-init
loop-p-init c =
    rw c.begin-p.ensures (look-begins c.args.held.now c.args.ranges (slots_from c.args.slots.now 0 c.args.n) c.args.rows.now c.args.blocks c.args.reach.now c.args.fronts.now c.args.order.now (omega arith) c.args.n (slots_length c.args.slots.now 0 c.args.n))

pub loop-p-smaller : goal.loop-p-smaller
loop-p-smaller c =
    rw (c.offer-p.ensures.0, c.look_row-b.ensures) (light-falls c.args.held.now c.args.ranges (slots_from c.args.slots.now 0 c.args.n) c.args.rows.now c.args.blocks c.args.reach.now c.args.fronts.now c.args.order.now (omega arith) c.loop-p.p c.loop-p.reach c.loop-p.fronts c.loop-p.order c.loop-p.invariant c.loop-p-test.true)

pub loop-p-preserved : goal.loop-p-preserved
loop-p-preserved c =
    rw (c.offer-p.ensures.0, c.offer-p.ensures.1, c.offer-p.ensures.2, c.offer-p.ensures.3, c.look_row-b.ensures) (light-turns c.args.held.now c.args.ranges (slots_from c.args.slots.now 0 c.args.n) c.args.rows.now c.args.blocks c.args.reach.now c.args.fronts.now c.args.order.now (omega arith) c.loop-p.p c.loop-p.reach c.loop-p.fronts c.loop-p.order c.loop-p.invariant c.loop-p-test.true)

pub returns : goal.returns
returns c =
    let e = look-ended c.args.held.now c.args.ranges (slots_from c.args.slots.now 0 c.args.n) c.args.rows.now c.args.blocks c.args.reach.now c.args.fronts.now c.args.order.now (omega arith) c.loop-p.p c.loop-p.reach c.loop-p.fronts c.loop-p.order c.loop-p.invariant c.loop-p-test.false in
    (ap (λ (d : Desk). d.at) e, ap (λ (d : Desk). d.reach) e, ap (λ (d : Desk). d.fronts) e, ap (λ (d : Desk). d.order) e)
