-- `picker::open` meets its contract: the fronts of the slots from `i` on make those of all.
use Prim.Native.Nat.{◌-◌}
use mathlib.Core.Path.{◌≡◌}
use Rattle.slots.specs.Slots.{slots_from}
use Rattle.picker.specs.Fronts.{opened_from}
use Rattle.picker.proofs.fronts.open.Given as goal

abbrev pub invariant-loop-i : goal.invariant-loop-i
invariant-loop-i l = opened_from l.i (slots_from l.slots l.i (l.n - l.i)) l.fronts ≡ opened_from 0 (slots_from l.slots 0 l.n) l.initial.fronts
