-- `bulk::read_differences` meets its contract: the words before i are what i draws gave, and c is the place that they left.
use Prim.Native.Nat.{ℕ}
use mathlib.Core.List.{List}
use lib.ListN.{length}
use Rattle.columns.specs.Difference.{next_difference}
use Rattle.bulk.specs.Bulk.{difference_draw}
use Rattle.bulk.proofs.Drawing.{ReadTo}
use Rattle.bulk.proofs.read_differences.Given as goal

abbrev pub itself : List ℕ → List ℕ
itself vs = vs

abbrev pub invariant-loop-i : goal.invariant-loop-i
invariant-loop-i l = ReadTo (λ d. difference_draw (next_difference l.column d)) itself (length l.initial.out) (length l.initial.out) l.initial.c l.out l.i l.i l.c
