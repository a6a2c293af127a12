-- `vector::put_words` meets its contract: the words before 2 * i are those of the entries before `i`.
use Prim.Native.Nat.{◌*◌, ◌≤◌}
use mathlib.Core.Path.{◌≡◌}
use lib.ListN.{length, take}
use Rattle.vector.specs.VectorInner.{joined}
use Rattle.vector.proofs.put_words.Given as goal

abbrev pub invariant-loop-i : goal.invariant-loop-i
invariant-loop-i l = (l.i ≤ l.n) × (length l.out ≡ length l.initial.out) × (take (2 * l.i) l.out ≡ joined (take l.i l.clients) (take l.i l.clocks))
