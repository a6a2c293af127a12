-- `sorter::sort_kept` meets its contract: the slots of local words are those of the rows and the entries.
use Rattle.std.proofs.Common.{replicate, take}
use Rattle.kept.specs.Plan.{entries_of}
use Rattle.sorter.specs.Sorter.{slot_words}
use Rattle.sorter.proofs.Exits.{held_asks, exit-kept}
use Rattle.sorter.proofs.sort_kept.Goals as goal

pub sort_slots-requires : goal.sort_slots-requires
sort_slots-requires c =
    rw (c.open_slots-n.ensures.0, c.open_slots-n.ensures.1) (held_asks (replicate slot_words 0) (take c.args.blocks c.args.rows.now) (take c.args.m c.args.clients.now))

pub returns : goal.returns
returns c =
    let e = c.sort_slots.ensures in
    rw (e.0, e.1, e.2, e.3, e.4, c.open_slots-n.ensures.0, c.open_slots-n.ensures.1)
    (exit-kept c.args.rule c.args.rows.now c.args.blocks (take c.args.m c.args.clients.now) (entries_of c.args.m c.args.clients.now c.args.clocks.now) c.args.order.now c.args.counts.now c.args.reaches.now c.args.pending.now)
