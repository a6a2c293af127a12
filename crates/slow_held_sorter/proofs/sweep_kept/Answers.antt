-- `slow_held_sorter::sweep_kept` meets its contract: the slots of local words are those of the rows, and these are swept.
use Rattle.slow_held_sorter.proofs.Exits.{kept-asks, exit-kept}
use Rattle.slow_held_sorter.proofs.sweep_kept.Goals as goal

pub sweep_slots-requires : goal.sweep_slots-requires
sweep_slots-requires c =
    rw (c.note_rows-noted.ensures.0, c.note_rows-noted.ensures.1)
    (kept-asks c.args.held.now c.args.ranges c.args.rows.now c.args.blocks c.args.order.now c.args.counts.now c.args.pending.now c.requires.1)

pub returns : goal.returns
returns c =
    let e = c.sweep_slots.ensures in
    rw (e.0, e.1, e.2, e.3, c.note_rows-noted.ensures.0, c.note_rows-noted.ensures.1)
    (exit-kept c.args.held.now c.args.ranges c.args.rows.now c.args.blocks c.args.order.now c.args.counts.now c.args.pending.now)
