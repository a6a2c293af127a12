-- `listing_text::put_number` meets its contract: a number, then the byte.
use native.Mathlib.Omega.{arith}
use mathlib.Core.List.{[], ◌∷◌}
use Rattle.lines.specs.Lines.{decimal}
use Rattle.lines.proofs.Laws.{decimal-short, put_then}
use Rattle.listing_text.specs.Listing.{number_then}
use Rattle.listing_text.proofs.put_number.Goals as goal

pub put_byte-requires : goal.put_byte-requires
put_byte-requires c = omega (arith, c.put_decimal-at.ensures.0, decimal-short c.args.v)

pub returns : goal.returns
unfolding number_then
returns c = let a = c.args in
    put_then a.out.now a.used (decimal a.v) (a.end ∷ []) c.put_decimal-at.ensures c.put_byte.ensures
