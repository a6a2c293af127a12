-- `listing_text::put_header` meets its contract: three named numbers.
use native.Mathlib.Omega.{arith}
use mathlib.Core.List.{◌++◌}
use Rattle.lines.proofs.Laws.{put_then}
use Rattle.listing_text.specs.Listing.{named, header}
use Rattle.listing_text.specs.Words.{word_form, word_blocks, word_ranges}
use Rattle.listing_text.proofs.Laws.{named-short}
use Rattle.listing_text.proofs.put_header.Goals as goal

pub put_named-past_blocks-requires : goal.put_named-past_blocks-requires
put_named-past_blocks-requires c = omega (arith, c.put_named-past_form.ensures.0, named-short word_form c.args.form 32)

pub put_named-requires : goal.put_named-requires
put_named-requires c = omega (arith, c.put_named-past_blocks.ensures.0, c.put_named-past_form.ensures.0, named-short word_form c.args.form 32, named-short word_blocks c.args.blocks 32)

pub returns : goal.returns
unfolding header
returns c = let a = c.args in
    let form = named word_form a.form 32 in
    let blocks = named word_blocks a.blocks 32 in
    put_then a.out.now a.used (form ++ blocks) (named word_ranges a.ranges 10) (put_then a.out.now a.used form blocks c.put_named-past_form.ensures c.put_named-past_blocks.ensures) c.put_named.ensures
