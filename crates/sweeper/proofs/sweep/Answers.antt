-- `sweeper::sweep` meets its contract: client after client, the lowest first.
use Rattle.std.proofs.Common.{◌≡◌, ◌-◌, List, ℕ, arith}
use Rattle.block.specs.declared.Block.{Block}
use Rattle.slots.specs.Slots.{Slot, slots_from}
use Rattle.slots.proofs.Words.{slots_length}
use Rattle.sweeper.specs.Sweeper.{seen_by, Board, board}
use Rattle.sweeper.proofs.Seen.{seen-length}
use Rattle.sweeper.proofs.Sweeps.{Sweeping, sets-out, goes_on, comes-round, boarded, shown}
use Rattle.sweeper.proofs.sweep.Goals as goal

-- the same board, by its parts
swept-on : (rule : ℕ) (ss : List Slot) (rows : List Block) (d₀ : Board) (i : ℕ) (d e : Board) → d ≡ e → Sweeping rule ss rows d₀ i e → Sweeping rule ss rows d₀ i d
swept-on rule ss rows d₀ i d e p s = rw p s

pub loop-i-init : goal.loop-i-init
loop-i-init c = let a = c.args in
    let ss = slots_from a.slots.now 0 a.n in
    let seen = seen_by a.numbered a.held.now a.ranges ss a.rows.now in
    sets-out a.rule ss seen (omega (arith, seen-length a.held.now a.ranges ss a.rows.now a.numbered)) (board a.reach.now a.taken.now a.order.now a.steps) a.n
    (slots_length a.slots.now 0 a.n)

pub drain-steps-requires : goal.drain-steps-requires
drain-steps-requires c = let a = c.args in
    let req = c.requires in
    (req.0, req.1, omega (arith, req.2, c.loop-i.invariant.room), omega (arith, c.loop-i-test.true, c.loop-i.invariant.upto, slots_length a.slots.now 0 a.n), req.3)

pub loop-i-preserved : goal.loop-i-preserved
loop-i-preserved c = let a = c.args in
    let ss = slots_from a.slots.now 0 a.n in
    let seen = seen_by a.numbered a.held.now a.ranges ss a.rows.now in
    let d = board a.reach.now a.taken.now a.order.now a.steps in
    let e = board c.loop-i.reach c.loop-i.taken c.loop-i.order c.loop-i.steps in
    swept-on a.rule ss seen d (c.loop-i.i - 1) _ _ (boarded _ _ _ _ _ c.drain-steps.ensures)
    (goes_on a.rule ss seen (omega (arith, seen-length a.held.now a.ranges ss a.rows.now a.numbered)) d c.loop-i.i e c.loop-i.invariant c.loop-i-test.true)

pub returns : goal.returns
returns c = let a = c.args in
    let ss = slots_from a.slots.now 0 a.n in
    let seen = seen_by a.numbered a.held.now a.ranges ss a.rows.now in
    let d = board a.reach.now a.taken.now a.order.now a.steps in
    let e = board c.loop-i.reach c.loop-i.taken c.loop-i.order c.loop-i.steps in
    shown e _ (comes-round a.rule ss seen (omega (arith, seen-length a.held.now a.ranges ss a.rows.now a.numbered)) d c.loop-i.i e c.loop-i.invariant c.loop-i-test.false)
