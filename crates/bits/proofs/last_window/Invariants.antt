-- `bits::last_window` meets its contract: the bytes so far, and the number of the bits behind them, are the number of all.
use Prim.Native.Nat.{◌+◌, ◌*◌, ◌^◌}
use mathlib.Core.Path.{◌≡◌}
use lib.ListN.{drop}
use Rattle.bits.specs.Bits.{value_of, of_bytes}
use Rattle.bits.proofs.last_window.Given as goal

abbrev pub invariant-loop-b : goal.invariant-loop-b
invariant-loop-b l = (l.w * 2 ^ l.left + value_of l.left (of_bytes (drop l.b-index l.b-items)) ≡ value_of 64 (of_bytes l.b-items)) × (l.left + 8 * l.b-index ≡ 64)
