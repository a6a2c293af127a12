-- `listing_text::put_range` meets its contract: three numbers.
use native.Mathlib.Omega.{arith}
use mathlib.Core.List.{◌++◌}
use Rattle.lines.proofs.Laws.{put_then}
use Rattle.listing_text.specs.Listing.{number_then, range_line}
use Rattle.listing_text.proofs.Laws.{number_short}
use Rattle.listing_text.proofs.put_range.Goals as goal

pub put_number-past_clock-requires : goal.put_number-past_clock-requires
put_number-past_clock-requires c = omega (arith, c.put_number-past_client.ensures.0, number_short c.args.client 32)

pub put_number-requires : goal.put_number-requires
put_number-requires c = omega (arith, c.put_number-past_clock.ensures.0, c.put_number-past_client.ensures.0, number_short c.args.client 32, number_short c.args.clock 32)

pub returns : goal.returns
unfolding range_line
returns c = let a = c.args in
    let client = number_then a.client 32 in
    let clock = number_then a.clock 32 in
    put_then a.out.now a.used (client ++ clock) (number_then a.len 10) (put_then a.out.now a.used client clock c.put_number-past_client.ensures c.put_number-past_clock.ensures) c.put_number.ensures
