-- `sweeper::drain` meets its contract: fronts are taken while they are ready, one after another.
use Rattle.std.proofs.Common.{◌≡◌, ◌≤◌, ◌<◌, length, get_or, ap, sym, ◌∙◌, arith, Bool, List, ℕ}
use Rattle.block.specs.declared.Block.{Block}
use Rattle.picker.specs.Picker.{nowhere}
use Rattle.slots.specs.Slots.{Slot, slot_at, slots_from}
use Rattle.slots.proofs.Words.{slot-at}
use Rattle.sweeper.specs.Sweeper.{seen_by, front_row, Board, board, row_at}
use Rattle.sweeper.proofs.Seen.{seen-length}
use Rattle.sweeper.proofs.Sweeps.{begins, asked, ended, boarded, shown, turns_to, falls_to, stops-there}
use Rattle.sweeper.proofs.drain.Goals as goal

short : (numbered : Bool) (held : List ℕ) (ranges : ℕ) (ss : List Slot) (rows : List Block) → length rows ≤ nowhere → length (seen_by numbered held ranges ss rows) ≤ nowhere
short numbered held ranges ss rows h = omega (arith, seen-length held ranges ss rows numbered)

inside : (numbered : Bool) (held : List ℕ) (ranges : ℕ) (ss : List Slot) (rows : List Block) {row : ℕ} → row < length rows → row < length (seen_by numbered held ranges ss rows)
inside numbered held ranges ss rows h = omega (arith, seen-length held ranges ss rows numbered)

-- the row of the front, from the words of the slots
row-here : (slots : List ℕ) (n i row : ℕ) (d : Board) → i < n → row ≡ front_row (slot_at slots i) (get_or d.taken i 0) → row ≡ row_at (slots_from slots 0 n) d i
row-here slots n i row d l e = e ∙ ap (λ (s : Slot). front_row s (get_or d.taken i 0)) (sym (slot-at slots n i l))

pub loop-row-init : goal.loop-row-init
loop-row-init c = let a = c.args in
    let ss = slots_from a.slots.now 0 a.n in
    let seen = seen_by a.numbered a.held.now a.ranges ss a.rows.now in
    let d = board a.reach.now a.taken.now a.order.now a.steps in
    begins a.rule ss seen (short a.numbered a.held.now a.ranges ss a.rows.now (omega arith)) a.i d c.front_row-row.result
    (row-here a.slots.now a.n a.i c.front_row-row.result d c.requires.3 c.front_row-row.ensures)

pub returns-then-not-is_ready : goal.returns-then-not-is_ready
returns-then-not-is_ready c = let a = c.args in
    let ss = slots_from a.slots.now 0 a.n in
    let seen = seen_by a.numbered a.held.now a.ranges ss a.rows.now in
    let d = board a.reach.now a.taken.now a.order.now a.steps in
    let e = board c.loop-row.reach c.loop-row.taken c.loop-row.order c.loop-row.steps in
    shown e _
    (stops-there a.rule ss seen (short a.numbered a.held.now a.ranges ss a.rows.now (omega arith)) a.i d c.loop-row.row e c.loop-row.invariant (omega (arith, c.requires.2, c.requires.3))
    (inside a.numbered a.held.now a.ranges ss a.rows.now c.loop-row-test.true) c.see-b.result c.see-b.ensures (sym c.is_ready.ensures ∙ c.if-not-is_ready.true))

pub take-steps-requires : goal.take-steps-requires
take-steps-requires c = let a = c.args in
    let ss = slots_from a.slots.now 0 a.n in
    let seen = seen_by a.numbered a.held.now a.ranges ss a.rows.now in
    let d = board a.reach.now a.taken.now a.order.now a.steps in
    let e = board c.loop-row.reach c.loop-row.taken c.loop-row.order c.loop-row.steps in
    asked a.rule ss seen (short a.numbered a.held.now a.ranges ss a.rows.now (omega arith)) a.i d c.loop-row.row e c.loop-row.invariant (omega (arith, c.requires.2, c.requires.3))
    (inside a.numbered a.held.now a.ranges ss a.rows.now c.loop-row-test.true)

pub loop-row-smaller : goal.loop-row-smaller
loop-row-smaller c = let a = c.args in
    let ss = slots_from a.slots.now 0 a.n in
    let seen = seen_by a.numbered a.held.now a.ranges ss a.rows.now in
    let d = board a.reach.now a.taken.now a.order.now a.steps in
    let e = board c.loop-row.reach c.loop-row.taken c.loop-row.order c.loop-row.steps in
    let w = c.take-steps.new in
    falls_to a.rule ss seen (short a.numbered a.held.now a.ranges ss a.rows.now (omega arith)) a.i d c.loop-row.row e c.loop-row.invariant (omega (arith, c.requires.2, c.requires.3))
    (inside a.numbered a.held.now a.ranges ss a.rows.now c.loop-row-test.true) c.see-b.result c.see-b.ensures
    (board w.reach w.taken w.order c.take-steps.result) (boarded _ _ _ _ _ c.take-steps.ensures)

pub loop-row-preserved : goal.loop-row-preserved
loop-row-preserved c = let a = c.args in
    let ss = slots_from a.slots.now 0 a.n in
    let seen = seen_by a.numbered a.held.now a.ranges ss a.rows.now in
    let d = board a.reach.now a.taken.now a.order.now a.steps in
    let e = board c.loop-row.reach c.loop-row.taken c.loop-row.order c.loop-row.steps in
    let w = c.take-steps.new in
    let u = board w.reach w.taken w.order c.take-steps.result in
    turns_to a.rule ss seen (short a.numbered a.held.now a.ranges ss a.rows.now (omega arith)) a.i d c.loop-row.row e c.loop-row.invariant (omega (arith, c.requires.2, c.requires.3))
    (inside a.numbered a.held.now a.ranges ss a.rows.now c.loop-row-test.true) c.see-b.result c.see-b.ensures
    u (boarded _ _ _ _ _ c.take-steps.ensures) (sym c.is_ready.ensures ∙ c.if-not-is_ready.false) c.front_row-row-in-loop-row.result
    (row-here a.slots.now a.n a.i c.front_row-row-in-loop-row.result u c.requires.3 c.front_row-row-in-loop-row.ensures)

pub returns : goal.returns
returns c = let a = c.args in
    let ss = slots_from a.slots.now 0 a.n in
    let seen = seen_by a.numbered a.held.now a.ranges ss a.rows.now in
    let d = board a.reach.now a.taken.now a.order.now a.steps in
    let e = board c.loop-row.reach c.loop-row.taken c.loop-row.order c.loop-row.steps in
    shown e _
    (ended a.rule ss seen (short a.numbered a.held.now a.ranges ss a.rows.now (omega arith)) a.i d c.loop-row.row e c.loop-row.invariant
    (omega (arith, c.loop-row-test.false, seen-length a.held.now a.ranges ss a.rows.now a.numbered)))
