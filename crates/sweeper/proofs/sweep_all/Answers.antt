-- `sweeper::sweep_all` meets its contract: sweep after sweep, until one takes nothing.
use Rattle.std.proofs.Common.{◌≡◌, List, ℕ, arith}
use Rattle.block.specs.declared.Block.{Block}
use Rattle.slots.specs.Slots.{Slot, slots_from}
use Rattle.slots.proofs.Words.{slots_length}
use Rattle.sweeper.specs.Sweeper.{seen_by, Board, board}
use Rattle.sweeper.proofs.Seen.{seen-length}
use Rattle.sweeper.proofs.Sweeps.{Repeating, first-sweep, sweeps-again, sweeps-end, sweeps-less, boarded, shown}
use Rattle.sweeper.proofs.sweep_all.Goals as goal

-- the same board, by its parts
repeated : (rule : ℕ) (ss : List Slot) (rows : List Block) (d₀ : Board) (before : ℕ) (d e : Board) → d ≡ e → Repeating rule ss rows d₀ before e → Repeating rule ss rows d₀ before d
repeated rule ss rows d₀ before d e p s = rw p s

pub loop-before-init : goal.loop-before-init
loop-before-init c = let a = c.args in
    let ss = slots_from a.slots.now 0 a.n in
    let seen = seen_by a.numbered a.held.now a.ranges ss a.rows.now in
    let d = board a.reach.now a.taken.now a.order.now 0 in
    repeated a.rule ss seen d 0 _ _ (boarded _ _ _ _ _ c.sweep-steps.ensures)
    (first-sweep a.rule ss seen (omega (arith, seen-length a.held.now a.ranges ss a.rows.now a.numbered)) d (omega (arith, c.requires.2, slots_length a.slots.now 0 a.n)))

pub loop-before-smaller : goal.loop-before-smaller
loop-before-smaller c = let a = c.args in
    let ss = slots_from a.slots.now 0 a.n in
    let seen = seen_by a.numbered a.held.now a.ranges ss a.rows.now in
    let d = board a.reach.now a.taken.now a.order.now 0 in
    let b = c.loop-before in
    let w = c.sweep-steps-in-loop-before in
    sweeps-less a.rule ss seen (omega (arith, seen-length a.held.now a.ranges ss a.rows.now a.numbered)) b.before
    (board b.reach b.taken b.order b.steps) (board w.new.reach w.new.taken w.new.order w.result)
    (omega (arith, c.requires.2, b.invariant.room, slots_length a.slots.now 0 a.n)) c.loop-before-test.true
    (boarded _ _ _ _ _ w.ensures)

pub loop-before-preserved : goal.loop-before-preserved
loop-before-preserved c = let a = c.args in
    let ss = slots_from a.slots.now 0 a.n in
    let seen = seen_by a.numbered a.held.now a.ranges ss a.rows.now in
    let d = board a.reach.now a.taken.now a.order.now 0 in
    let b = c.loop-before in
    repeated a.rule ss seen d b.steps _ _ (boarded _ _ _ _ _ c.sweep-steps-in-loop-before.ensures)
    (sweeps-again a.rule ss seen (omega (arith, seen-length a.held.now a.ranges ss a.rows.now a.numbered)) d (omega (arith, c.requires.2, slots_length a.slots.now 0 a.n))
    b.before (board b.reach b.taken b.order b.steps) b.invariant c.loop-before-test.true)

pub returns : goal.returns
returns c = let a = c.args in
    let ss = slots_from a.slots.now 0 a.n in
    let seen = seen_by a.numbered a.held.now a.ranges ss a.rows.now in
    let d = board a.reach.now a.taken.now a.order.now 0 in
    let b = c.loop-before in
    shown (board b.reach b.taken b.order b.steps) _
    (sweeps-end a.rule ss seen (omega (arith, seen-length a.held.now a.ranges ss a.rows.now a.numbered)) d (omega (arith, c.requires.2, slots_length a.slots.now 0 a.n))
    b.before (board b.reach b.taken b.order b.steps) b.invariant c.loop-before-test.false)
