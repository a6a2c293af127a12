-- `nearby::chain_rows` meets its contract: row after row is linked to the chain.
use Rattle.std.proofs.Common.{◌∙◌}
use Rattle.nearby.proofs.Ways.{chain-none, chain-short, link-first, link-turn, link-end}
use Rattle.nearby.proofs.chain_rows.Goals as goal

pub returns-then-s : goal.returns-then-s
returns-then-s c = c.broken.ensures ∙ chain-none c.args.rows.now c.args.s c.if-s.true

pub returns-then-rows-s : goal.returns-then-rows-s
returns-then-rows-s c = c.broken-then-rows-s.ensures ∙ chain-short c.args.rows.now c.args.s c.if-s.false c.if-rows-s.true

pub loop-i-init : goal.loop-i-init
loop-i-init c = rw (c.begin-chain.ensures, c.fetch-a.ensures) (link-first c.args.rows.now c.args.s c.if-s.false c.if-rows-s.false)

pub loop-i-preserved : goal.loop-i-preserved
loop-i-preserved c = rw (c.link-chain.ensures, c.fetch-b.ensures) (link-turn c.args.rows.now c.args.s c.loop-i.chain c.loop-i.i c.loop-i.invariant c.loop-i-test.true)

pub returns : goal.returns
returns c = link-end c.args.rows.now c.args.s c.loop-i.chain c.loop-i.i c.loop-i.invariant c.loop-i-test.false
