-- `sorter::open_slots` meets its contract: rows are noted, then clients named.
use Rattle.std.proofs.Common.{take}
use Rattle.sorter.proofs.Exits.{open-asks, open-count, open-words}
use Rattle.sorter.proofs.open_slots.Goals as goal

pub name_all-requires : goal.name_all-requires
name_all-requires c = rw (c.note_rows-noted.ensures.0, c.note_rows-noted.ensures.1) (open-asks c.args.slots.now (take c.args.blocks c.args.rows.now) c.requires.1)

pub returns : goal.returns
returns c =
    let w = c.args.slots.now in
    let bs = take c.args.blocks c.args.rows.now in
    let ns = take c.args.m c.args.clients.now in
    rw (c.name_all.ensures.0, c.name_all.ensures.1, c.note_rows-noted.ensures.0, c.note_rows-noted.ensures.1) (open-count w bs ns, open-words w bs ns)
