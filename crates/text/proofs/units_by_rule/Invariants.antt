-- `text::units_by_rule` meets its contract: the units so far and those that the rule gives the rest are those that it gives the whole.
use Prim.Native.Nat.{◌+◌, ◌*◌, ◌≤◌}
use mathlib.Core.Path.{◌≡◌}
use lib.Seq.{slice}
use Rattle.text.specs.Rule.{by_rule}
use Rattle.text.proofs.units_by_rule.Given as goal

abbrev pub invariant-loop-i : goal.invariant-loop-i
invariant-loop-i l = (l.i ≤ l.to) × (l.n ≤ 2 * l.i) × (l.n + by_rule (slice l.i l.to l.s) ≡ by_rule (slice l.from l.to l.s))
