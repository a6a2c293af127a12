-- `listing_text::put_block` meets its contract: three numbers, the kind and the line's end.
use native.Mathlib.Omega.{arith}
use mathlib.Core.List.{[], ◌∷◌, ◌++◌}
use Rattle.lines.proofs.Laws.{put_then}
use Rattle.listing_text.specs.Listing.{number_then, kind_name, block_line}
use Rattle.listing_text.proofs.Laws.{number_short, kind-short}
use Rattle.listing_text.proofs.put_block.Goals as goal

pub put_number-past_clock-requires : goal.put_number-past_clock-requires
put_number-past_clock-requires c = omega (arith, c.put_number-past_client.ensures.0, number_short c.args.b.client 32)

pub put_number-past_length-requires : goal.put_number-past_length-requires
put_number-past_length-requires c = omega (arith, c.put_number-past_clock.ensures.0, c.put_number-past_client.ensures.0, number_short c.args.b.client 32, number_short c.args.b.clock 32)

pub put_kind-past_kind-requires : goal.put_kind-past_kind-requires
put_kind-past_kind-requires c = omega (arith, c.put_number-past_length.ensures.0, c.put_number-past_clock.ensures.0, c.put_number-past_client.ensures.0, number_short c.args.b.client 32, number_short c.args.b.clock 32, number_short c.args.b.length.0 32)

pub put_byte-requires : goal.put_byte-requires
put_byte-requires c = omega (arith, c.put_kind-past_kind.ensures.0, c.put_number-past_length.ensures.0, c.put_number-past_clock.ensures.0, c.put_number-past_client.ensures.0, number_short c.args.b.client 32, number_short c.args.b.clock 32, number_short c.args.b.length.0 32, kind-short c.args.b.kind)

pub returns : goal.returns
unfolding block_line
returns c = let a = c.args in
    let o = a.out.now in
    let u = a.used in
    let client = number_then a.b.client 32 in
    let clock = number_then a.b.clock 32 in
    let units = number_then a.b.length.0 32 in
    let kind = kind_name a.b.kind in
    put_then o u (client ++ clock ++ units ++ kind) (10 ∷ [])
    (put_then o u (client ++ clock ++ units) kind (put_then o u (client ++ clock) units (put_then o u client clock c.put_number-past_client.ensures c.put_number-past_clock.ensures) c.put_number-past_length.ensures) c.put_kind-past_kind.ensures) c.put_byte.ensures
