-- `listing_text::put_named` meets its contract: the word, then the number.
use Rattle.lines.proofs.Laws.{put_then}
use Rattle.listing_text.specs.Listing.{number_then, named}
use Rattle.listing_text.proofs.put_named.Goals as goal

pub returns : goal.returns
unfolding named
returns c = let a = c.args in
    put_then a.out.now a.used a.word.now (number_then a.v a.end) c.put_text-at.ensures c.put_number.ensures
