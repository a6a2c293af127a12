-- `find` meets its contract: none of the first i keys is it.
use Prim.Native.Nat.{◌+◌, ◌-◌}
use mathlib.Core.Path.{◌≡◌}
use Rattle.readings.specs.Sound.{bytes_in}
use Rattle.tokens.specs.Keys.{number_of}
use Rattle.tokens.specs.Desk.{known_from, known_in}
use Rattle.numbering.proofs.find.Given as goal

abbrev pub invariant-loop-i : goal.invariant-loop-i
invariant-loop-i l =
    l.i + number_of (bytes_in l.update l.part) (known_from l.update l.lanes l.i (l.count - l.i)) ≡ number_of (bytes_in l.update l.part) (known_in l.update l.lanes)
