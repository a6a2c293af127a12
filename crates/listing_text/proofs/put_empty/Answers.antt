-- `listing_text::put_empty` meets its contract.
use Rattle.listing_text.specs.Listing.{empty_line}
use Rattle.listing_text.proofs.put_empty.Goals as goal

pub returns : goal.returns
unfolding empty_line
returns c = c.put_text.ensures
