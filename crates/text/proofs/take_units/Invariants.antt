-- `text::take_units` meets its contract: what there is to take from here is what there was to take at the start.
use Prim.Native.Nat.{◌-◌, ◌≤◌}
use mathlib.Core.Path.{◌≡◌}
use lib.Seq.{slice}
use Rattle.text.specs.Utf8.{take_from, take_units}
use Rattle.text.specs.Utf8Inner.{Legal}
use Rattle.text.proofs.take_units.Given as goal

abbrev pub invariant-loop-i : goal.invariant-loop-i
invariant-loop-i l =
    (l.from ≤ l.i) × (l.i ≤ l.to) × (take_from l.pair l.st l.left (l.i - l.from) (slice l.i l.to l.s) ≡ take_units l.pair l.asked (slice l.from l.to l.s)) × Legal l.st
