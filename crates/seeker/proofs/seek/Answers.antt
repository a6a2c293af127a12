-- `seeker::seek` meets its contract: a turn leaves the half that what is sought lies in.
use Rattle.std.proofs.Common.{get_or}
use Rattle.block.specs.Row.{no_block}
use Rattle.placing.specs.Halving.{middle}
use Rattle.placing.specs.Placing.{past_row}
use Rattle.placing.proofs.Halved.{turn-less}
use Rattle.seeker.proofs.Seeking.{opens, turns, ended, turned}
use Rattle.seeker.proofs.seek.Goals as goal

pub loop-t-init : goal.loop-t-init
loop-t-init c = rw c.clip-t.ensures (opens c.args.rows.now c.args.s c.args.clock)

pub loop-t-smaller : goal.loop-t-smaller
loop-t-smaller c = rw (turned c.args.rows.now c.args.clock c.loop-t.t c.middle-mid.result c.fetch-b.result c.narrow_rows-t.result c.middle-mid.ensures c.fetch-b.ensures c.narrow_rows-t.ensures)
    (turn-less c.loop-t.t c.loop-t-test.true (past_row (get_or c.args.rows.now (middle c.loop-t.t.lo c.loop-t.t.hi) no_block) c.args.clock))

pub loop-t-preserved : goal.loop-t-preserved
loop-t-preserved c = rw (turned c.args.rows.now c.args.clock c.loop-t.t c.middle-mid.result c.fetch-b.result c.narrow_rows-t.result c.middle-mid.ensures c.fetch-b.ensures c.narrow_rows-t.ensures)
    (turns c.args.rows.now c.args.s c.args.clock c.loop-t.t c.loop-t.invariant c.loop-t-test.true)

pub returns : goal.returns
returns c = ended c.args.rows.now c.args.s c.args.clock c.loop-t.t c.loop-t.invariant c.loop-t-test.false
