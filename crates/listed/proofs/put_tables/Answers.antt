-- `listed::put_tables` meets its contract: each part of the listing is put where the part before it ended.
use Rattle.std.proofs.Common.{arith}
use Rattle.listed.proofs.Laws.{blocks-fit, ranges-fit, end_fits, all-put}
use Rattle.listed.proofs.put_tables.Goals as goal

pub put_blocks-past_blocks-requires : goal.put_blocks-past_blocks-requires
put_blocks-past_blocks-requires c = let a = c.args in
    let h = blocks-fit a.form a.rows.now a.blocks a.words.now a.ranges c.requires in
    (omega (arith, h.0, c.put_header-past_header.ensures.0), h.1)

pub put_ranges-past_ranges-requires : goal.put_ranges-past_ranges-requires
put_ranges-past_ranges-requires c = let a = c.args in
    let h = ranges-fit a.form a.rows.now a.blocks a.words.now a.ranges c.requires in
    (omega (arith, h.0, c.put_header-past_header.ensures.0, c.put_blocks-past_blocks.ensures.0), h.1)

pub put_end-requires : goal.put_end-requires
put_end-requires c = let a = c.args in
    omega (arith, end_fits a.form a.rows.now a.blocks a.words.now a.ranges c.requires, c.put_header-past_header.ensures.0, c.put_blocks-past_blocks.ensures.0, c.put_ranges-past_ranges.ensures.0)

pub returns : goal.returns
returns c = let a = c.args in
    all-put a.form a.rows.now a.blocks a.words.now a.ranges c.requires a.out.now c.put_header-past_header.ensures c.put_blocks-past_blocks.ensures c.put_ranges-past_ranges.ensures c.put_end.ensures
