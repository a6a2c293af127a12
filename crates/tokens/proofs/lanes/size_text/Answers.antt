-- `size_text` meets its contract: bytes in line, whose place is a word.
use Prim.Native.Nat.{◌+◌}
use native.Mathlib.Omega.{arith}
use mathlib.Core.List.{[]}
use lib.ListN.{get_or, set}
use Rattle.readings.specs.Sound.{bytes_in}
use Rattle.tokens.specs.Lanes.{moved_to, forward}
use Rattle.tokens.specs.Desk.{lane_in}
use Rattle.tokens.proofs.Laying.{at-brim, moved_on}
use Rattle.tokens.proofs.Words.{alone-none, alone-is, moves}
use Rattle.tokens.proofs.lanes.size_text.Goals as goal

pub returns-then-at-ge-BRIM : goal.returns-then-at-ge-BRIM
unfolding lane_in
returns-then-at-ge-BRIM c = let start = c in
    let w = start.args.lanes.now in
    let b = bytes_in start.args.update.now start.args.p in
    alone-is 5 (lane_in w 5) (forward (lane_in w 5) b) w w (alone-none 5 w start.requires (omega arith)) (at-brim [] (lane_in w 5) b c.if-at-ge-BRIM.true).0

pub returns : goal.returns
unfolding lane_in
returns c = let start = c in
    let w = start.args.lanes.now in
    let b = bytes_in start.args.update.now start.args.p in
    let at = get_or w 25 0 + c.bytes_inside.result in
    alone-is 5 (moved_to (lane_in w 5) at) (forward (lane_in w 5) b) w (set w 25 at) (moves 5 w start.requires (omega arith) at)
    (moved_on [] (lane_in w 5) b at c.if-at-ge-BRIM.false (omega (arith, c.bytes_inside.ensures.0)))
