-- `listing_text::put_refused` meets its contract: two named numbers.
use native.Mathlib.Omega.{arith}
use Rattle.lines.proofs.Laws.{put_then}
use Rattle.listing_text.specs.Listing.{named, refused_line}
use Rattle.listing_text.specs.Words.{word_refused, word_at}
use Rattle.listing_text.proofs.Laws.{named-short}
use Rattle.listing_text.proofs.put_refused.Goals as goal

pub put_named-requires : goal.put_named-requires
put_named-requires c = omega (arith, c.put_named-past_number.ensures.0, named-short word_refused c.args.why.number 32)

pub returns : goal.returns
unfolding refused_line
returns c = let a = c.args in
    put_then a.out.now a.used (named word_refused a.why.number 32) (named word_at a.why.place 10) c.put_named-past_number.ensures c.put_named.ensures
