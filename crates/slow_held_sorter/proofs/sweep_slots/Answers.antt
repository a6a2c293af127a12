-- `slow_held_sorter::sweep_slots` meets its contract: all sweeps over the rows by number, and the reports.
use Rattle.slots.specs.Slots.{slots_from}
use Rattle.slow_held_sorter.proofs.Exits.{exit-slots}
use Rattle.slow_held_sorter.proofs.sweep_slots.Goals as goal

pub returns : goal.returns
returns c =
    let s = c.sweep_all-steps.ensures in
    rw (c.sorted.ensures, c.clear_after.ensures, c.report_counts-a.ensures.0, c.report_counts-a.ensures.1, c.report_pending-w.ensures.0, c.report_pending-w.ensures.1, s.0, s.1, s.2, s.3)
    (exit-slots c.args.held.now c.args.ranges (slots_from c.args.slots.now 0 c.args.n) c.args.rows.now c.args.order.now c.args.counts.now c.args.pending.now)
