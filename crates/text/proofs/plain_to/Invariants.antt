-- `text::plain_to` meets its contract: each byte passed is below 128.
use Prim.Native.Nat.{◌≤◌}
use lib.Seq.{slice}
use Rattle.text.specs.Utf8Inner.{Plain}
use Rattle.text.proofs.plain_to.Given as goal

abbrev pub invariant-loop-i : goal.invariant-loop-i
invariant-loop-i l = (l.from ≤ l.i) × (l.i ≤ l.to) × Plain (slice l.from l.i l.s)
