-- `listing_text::put_end` meets its contract.
use Rattle.listing_text.specs.Listing.{end_line}
use Rattle.listing_text.proofs.put_end.Goals as goal

pub returns : goal.returns
unfolding end_line
returns c = c.put_text.ensures
