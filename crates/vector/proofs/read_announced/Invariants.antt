-- `vector::read_announced` meets its contract: what is seen and what is to come make the answer that they made at the start.
use Prim.Native.Nat.{◌-◌, ◌≤◌}
use mathlib.Core.Path.{◌≡◌}
use lib.ListN.{length}
use Rattle.numbers.specs.Limits.{max_clients}
use Rattle.vector.proofs.Laws.{ReadTo}
use Rattle.vector.proofs.read_announced.Given as goal

abbrev pub invariant-loop-i : goal.invariant-loop-i
invariant-loop-i l =
    ReadTo l.vector l.count l.i l.at l.clients l.clocks × (length l.clients ≡ length l.initial.clients) × (length l.clocks ≡ length l.initial.clocks) × (l.count ≤ max_clients)
