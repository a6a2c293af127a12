-- `count_ranges` meets its contract: those passed, and those that follow, are all.
use Prim.Native.Nat.{◌+◌, ◌-◌}
use mathlib.Core.Path.{◌≡◌}
use Rattle.ranges.specs.TableInner.{rows_from}
use Rattle.records.specs.DeleteRows.{leading, siblings}
use Rattle.records.proofs.delete_set.count_ranges.Given as goal

abbrev pub invariant-loop-j : goal.invariant-loop-j
invariant-loop-j l = l.j - l.i + leading l.client (rows_from l.ranges l.j (l.n - l.j)) ≡ siblings l.ranges l.i (l.n - (l.i + 1))
