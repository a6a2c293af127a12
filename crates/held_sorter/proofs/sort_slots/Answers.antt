-- `held_sorter::sort_slots` meets its contract: fronts, all looks, and the reports.
use Rattle.slots.specs.Slots.{slots_from}
use Rattle.held_sorter.proofs.Exits.{exit-slots}
use Rattle.held_sorter.proofs.sort_slots.Goals as goal

pub returns : goal.returns
returns c =
    let p = c.pick_rows-p.ensures in
    rw (c.sorted.ensures, c.clear_after.ensures, c.report_counts-a.ensures.0, c.report_counts-a.ensures.1, c.report_pending-w.ensures.0, c.report_pending-w.ensures.1, p.0, p.1, p.2, p.3, c.open.ensures)
    (exit-slots c.args.held.now c.args.ranges (slots_from c.args.slots.now 0 c.args.n) c.args.rows.now c.args.blocks c.args.order.now c.args.counts.now c.args.pending.now)
