-- `count_clients` meets its contract: those counted, and those left to count, are all.
use Prim.Native.Nat.{◌+◌, ◌-◌, ◌≤◌}
use mathlib.Core.Path.{◌≡◌}
use Rattle.records.proofs.DeleteRows.{firsts}
use Rattle.records.proofs.delete_set.count_clients.Given as goal

abbrev pub invariant-loop-i : goal.invariant-loop-i
invariant-loop-i l = (l.count + firsts l.ranges l.i (l.n - l.i) ≡ firsts l.ranges 0 l.n) × (l.count ≤ l.i)
