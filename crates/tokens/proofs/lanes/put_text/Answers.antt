-- `put_text` meets its contract: bytes in line, whose place is a word.
use mathlib.Core.Path.{◌∙◌}
use native.Mathlib.Omega.{arith}
use lib.ListN.{set}
use Rattle.readings.specs.Sound.{bytes_in}
use Rattle.tokens.specs.Lanes.{moved_to, forward}
use Rattle.tokens.specs.Desk.{lane_in}
use Rattle.tokens.proofs.Places.{forward-ahead, laid-place}
use Rattle.tokens.proofs.Words.{alone-is, moves}
use Rattle.tokens.proofs.lanes.put_text.Goals as goal

pub bounds-lanes-25 : goal.bounds-lanes-25
bounds-lanes-25 c = omega (arith, c.requires.size)

pub bounds-lanes-25-2 : goal.bounds-lanes-25-2
bounds-lanes-25-2 c = omega (arith, c.requires.size)

pub returns : goal.returns
unfolding lane_in
returns c = let start = c in
    let a = start.args in
    let w = a.lanes.now in
    let b = bytes_in a.update.now a.p in
    let e = lane_in w 5 in (
      alone-is 5 (moved_to e c.part-next.result) (forward e b) w (set w 25 c.part-next.result) (moves 5 w start.requires (omega arith) c.part-next.result)
          (rw c.part-next.ensures.0 (forward-ahead a.out.now e b)),
      c.part-next.ensures.1 ∙ laid-place a.out.now e b,
    )
