-- `nearby::chain_slots` meets its contract: the chain of one slot after the other.
use Rattle.nearby.proofs.Ways.{fill-turn, fill_end}
use Rattle.nearby.proofs.chain_slots.Goals as goal

pub loop-p-preserved : goal.loop-p-preserved
loop-p-preserved c = rw (c.put_chain.ensures, c.chain_rows-chain.ensures, c.span_at-s.ensures)
    (fill-turn c.args.rows.now c.args.slots.now c.args.n c.args.chains.now c.loop-p.chains c.loop-p.p c.loop-p.invariant c.loop-p-test.true)

pub returns : goal.returns
returns c = fill_end c.args.rows.now c.args.slots.now c.args.n c.args.chains.now c.loop-p.chains c.loop-p.p c.loop-p.invariant c.loop-p-test.false
