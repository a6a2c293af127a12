-- `picker::fill_reaches` meets its contract: the reaches of the slots from `i` on make those of all.
use Prim.Native.Nat.{◌-◌}
use mathlib.Core.Path.{◌≡◌}
use Rattle.slots.specs.Slots.{slots_from}
use Rattle.kept.specs.Plan.{entries_of}
use Rattle.picker.specs.Fronts.{filled_from}
use Rattle.picker.proofs.fronts.fill_reaches.Given as goal

abbrev pub invariant-loop-i : goal.invariant-loop-i
invariant-loop-i l =
    filled_from l.i (slots_from l.slots l.i (l.n - l.i)) (entries_of l.m l.clients l.clocks) l.reach ≡ filled_from 0 (slots_from l.slots 0 l.n) (entries_of l.m l.clients l.clocks) l.initial.reach
