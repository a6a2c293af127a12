-- `held_sorter::sort_kept` meets its contract: the slots of local words are those of the rows, and these are sorted.
use Rattle.std.proofs.Common.{replicate, take}
use Rattle.sorter.specs.Sorter.{slot_words}
use Rattle.sorter.proofs.Exits.{open-asks}
use Rattle.held_sorter.proofs.Exits.{exit-kept}
use Rattle.held_sorter.proofs.sort_kept.Goals as goal

pub sort_slots-requires : goal.sort_slots-requires
sort_slots-requires c =
    rw (c.note_rows-noted.ensures.0, c.note_rows-noted.ensures.1) (open-asks (replicate slot_words 0) (take c.args.blocks c.args.rows.now) c.requires.1)

pub returns : goal.returns
returns c =
    let e = c.sort_slots.ensures in
    rw (e.0, e.1, e.2, e.3, c.note_rows-noted.ensures.0, c.note_rows-noted.ensures.1)
    (exit-kept c.args.held.now c.args.ranges c.args.rows.now c.args.blocks c.args.order.now c.args.counts.now c.args.pending.now)
