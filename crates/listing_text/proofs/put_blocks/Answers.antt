-- `listing_text::put_blocks` meets its contract: the next row adds its line to those of the first i rows.
use Rattle.std.proofs.Common.{length, ap, ◌∙◌, ◌+◌}
use Rattle.block.specs.declared.Block.{Block}
use Rattle.lines.specs.LinesInner.{overlay}
use Rattle.listing_text.specs.Listing.{block_line}
use Rattle.listing_text.proofs.Laws.{rows-begin, rows_on, rows-over, rows-room}
use Rattle.listing_text.proofs.put_blocks.Goals as goal

pub loop-i-init : goal.loop-i-init
loop-i-init c = rows-begin c.args.out.now c.args.used c.args.n c.args.rows.now

pub put_block-at-requires : goal.put_block-at-requires
put_block-at-requires c =
    let a = c.args in
    let l = c.loop-i in
    rows-room a.out.now a.used a.n a.rows.now l.at l.i l.out l.invariant c.loop-i-test.true c.requires.1 c.requires.0

pub loop-i-preserved : goal.loop-i-preserved
loop-i-preserved c =
    let a = c.args in
    let l = c.loop-i in
    let on = rows_on a.out.now a.used a.n a.rows.now l.at l.i l.out l.invariant c.loop-i-test.true c.requires.1 in
    (on.0, c.put_block-at.ensures.0 ∙ ap (λ (b : Block). l.at + length (block_line b)) c.fetch-b.ensures ∙ on.1, c.put_block-at.ensures.1 ∙ ap (λ (b : Block). overlay l.out l.at (block_line b)) c.fetch-b.ensures ∙ on.2)

pub returns : goal.returns
returns c =
    let a = c.args in
    let l = c.loop-i in
    rows-over a.out.now a.used a.n a.rows.now l.at l.i l.out l.invariant c.loop-i-test.false
