-- `sorter::sort_slots` meets its contract: what its calls leave is what all looks and the reports come to.
use Rattle.slots.specs.Slots.{slots_from}
use Rattle.kept.specs.Plan.{entries_of}
use Rattle.sorter.proofs.Exits.{exit-slots}
use Rattle.sorter.proofs.sort_slots.Goals as goal

pub returns : goal.returns
returns c =
    let p = c.pick_rows-p.ensures in
    rw (c.sorted.ensures, c.clear_after.ensures, c.report_counts-a.ensures.0, c.report_counts-a.ensures.1, c.report_reaches-r.ensures.0, c.report_reaches-r.ensures.1, c.report_pending-w.ensures.0, c.report_pending-w.ensures.1, p.0, p.1, p.2, p.3, c.fill_reaches.ensures, c.open.ensures)
    (exit-slots c.args.rule (slots_from c.args.slots.now 0 c.args.n) c.args.rows.now c.args.blocks (entries_of c.args.m c.args.clients.now c.args.clocks.now) c.args.order.now c.args.counts.now c.args.reaches.now c.args.pending.now)
