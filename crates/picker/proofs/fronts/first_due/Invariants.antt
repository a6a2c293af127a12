-- `picker::first_due` meets its contract: the first due front from `i` on is the first of all.
use Prim.Native.Nat.{◌-◌}
use mathlib.Core.Path.{◌≡◌}
use Rattle.picker.specs.Fronts.{due_from}
use Rattle.picker.proofs.fronts.first_due.Given as goal

abbrev pub invariant-loop-i : goal.invariant-loop-i
invariant-loop-i l = due_from l.fronts l.reach l.i (l.n - l.i) ≡ due_from l.fronts l.reach 0 l.n
