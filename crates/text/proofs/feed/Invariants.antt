-- `text::feed` meets its contract: what the rest leads to from the state here is what all of it leads to from the start.
use Prim.Native.Nat.{◌≤◌}
use mathlib.Core.Path.{◌≡◌}
use lib.Seq.{slice}
use Rattle.text.specs.Utf8.{after}
use Rattle.text.specs.Utf8Inner.{Legal}
use Rattle.text.proofs.feed.Given as goal

abbrev pub invariant-loop-i : goal.invariant-loop-i
invariant-loop-i l = (l.i ≤ l.to) × (after l.st (slice l.i l.to l.s) ≡ after l.initial.st (slice l.from l.to l.s)) × Legal l.st
