-- `slow_sorter::sweep_slots` meets its contract: what its calls leave is what all sweeps and the reports come to. Rows are seen as they are.
use Rattle.kept.specs.Plan.{entries_of}
use Rattle.slots.specs.Slots.{slots_from}
use Rattle.sweeper.specs.Sweeper.{seen_by}
use Rattle.slow_sorter.proofs.Exits.{exit-slots}
use Rattle.slow_sorter.proofs.sweep_slots.Goals as goal

pub returns : goal.returns
unfolding seen_by
returns c =
    let s = c.sweep_all-steps.ensures in
    rw (c.sorted.ensures, c.clear_after.ensures, c.report_counts-a.ensures.0, c.report_counts-a.ensures.1, c.report_reaches-r.ensures.0, c.report_reaches-r.ensures.1, c.report_pending-w.ensures.0, c.report_pending-w.ensures.1, s.0, s.1, s.2, s.3, c.fill_reaches.ensures)
    (exit-slots c.args.rule (slots_from c.args.slots.now 0 c.args.n) c.args.rows.now (entries_of c.args.m c.args.clients.now c.args.clocks.now) c.args.order.now c.args.counts.now c.args.reaches.now c.args.pending.now)
