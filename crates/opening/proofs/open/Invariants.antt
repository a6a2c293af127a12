-- `opening::open` meets its contract. The loop's invariant: so many columns are cut, and from here on the opening comes to what it comes to; the first, of keys,
-- has its length at byte 1.
use Prim.Native.Nat.{◌≤◌}
use mathlib.Core.Path.{◌≡◌}
use lib.ListN.{length}
use Rattle.cells.specs.Cells.{Small}
use Rattle.opening.proofs.Opening.{Cutting}
use Rattle.opening.proofs.open.Given as goal

abbrev pub invariant-loop-k : goal.invariant-loop-k
invariant-loop-k l = Small l.w × (l.k ≤ 9) × Cutting l.update l.w l.k l.at × (length l.w ≡ length l.initial.w) × (l.k ≡ 0 → l.at ≡ 1)
