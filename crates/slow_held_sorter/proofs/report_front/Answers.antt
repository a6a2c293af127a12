-- `slow_held_sorter::report_front` meets its contract: a front that is there waits for its first id that is not met.
use Rattle.std.proofs.Common.{arith, get_or}
use Rattle.slots.specs.Slots.{slot_at, slots_from}
use Rattle.slow_held_sorter.proofs.Exits.{front-waits, front-done}
use Rattle.slow_held_sorter.proofs.report_front.Goals as goal

pub returns-then-row-rows : goal.returns-then-row-rows
returns-then-row-rows c = let a = c.args in
    let e = front-waits a.held.now a.ranges (slots_from a.slots.now 0 a.n) a.rows.now a.reach.now (slot_at a.slots.now a.i) (get_or a.taken.now a.i 0) a.out.now a.at (omega arith) in
    rw (c.put_waiting.ensures.0, c.put_waiting.ensures.1, c.first_unmet-id.ensures, c.number_row-b.ensures, c.fetch-a.ensures, c.front_row-row.ensures) e

pub returns : goal.returns
returns c = let a = c.args in
    front-done a.held.now a.ranges (slots_from a.slots.now 0 a.n) a.rows.now a.reach.now (slot_at a.slots.now a.i) (get_or a.taken.now a.i 0) a.out.now a.at (omega arith)
