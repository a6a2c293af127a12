-- `bits::store` meets its contract: what is left to store, from here on, is the whole onto what was there.
use Prim.Native.Nat.{◌+◌, ◌-◌}
use mathlib.Core.Path.{◌≡◌}
use lib.Seq.{sets}
use Rattle.bits.specs.Places.{top}
use Rattle.bits.proofs.store.Given as goal

abbrev pub invariant-loop-i : goal.invariant-loop-i
invariant-loop-i l = sets l.out (l.at + l.i) (top (l.n - l.i) l.rest) ≡ sets l.initial.out l.at (top l.n l.w)
