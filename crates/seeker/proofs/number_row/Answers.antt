-- `seeker::number_row` meets its contract: a row's three dependencies are placed, and it is numbered by them.
use Rattle.std.proofs.Common.{get_or, ◌∙◌}
use Rattle.block.specs.Row.{no_block}
use Rattle.slots.specs.Slots.{slots_from}
use Rattle.seeker.proofs.Seeking.{row-by}
use Rattle.seeker.proofs.number_row.Goals as goal

pub returns : goal.returns
returns c = c.numbered.ensures
    ∙ rw (c.place-left.ensures, c.place-right.ensures, c.place-parent.ensures, c.at-first.ensures, c.at-second.ensures, c.at-third.ensures, c.fetch-b.ensures)
    (row-by c.args.held.now c.args.ranges (slots_from c.args.slots.now 0 c.args.n) c.args.rows.now c.args.i (get_or c.args.rows.now c.args.i no_block))
