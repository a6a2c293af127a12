-- `nearby::look_row` meets its contract: its three stages are settled one after the other.
use Rattle.std.proofs.Common.{get_or, ◌∙◌}
use Rattle.block.specs.Row.{no_block}
use Rattle.slots.specs.Slots.{slots_from}
use Rattle.nearby.proofs.Ways.{looked-so}
use Rattle.nearby.proofs.look_row.Goals as goal

pub returns : goal.returns
returns c = c.numbered.ensures
    ∙ rw (c.settle-left.ensures, c.settle-right.ensures, c.settle-parent.ensures, c.stage_of-first.ensures, c.stage_of-second.ensures, c.stage_of-third.ensures, c.fetch-b.ensures)
    (looked-so c.args.held.now c.args.ranges (slots_from c.args.slots.now 0 c.args.n) c.args.rows.now c.args.reach.now c.args.i (get_or c.args.rows.now c.args.i no_block))
