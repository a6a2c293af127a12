-- `bulk::read_numbers` meets its contract: the words before i are what i draws gave, and c is the place that they left.
use Prim.Native.Nat.{◌-◌}
use lib.ListN.{length}
use Rattle.columns.specs.Number.{next_number}
use Rattle.bulk.specs.Bulk.{number_draw}
use Rattle.bulk.proofs.Drawing.{ReadTo}
use Rattle.bulk.proofs.Spreading.{itself}
use Rattle.bulk.proofs.read_numbers.Given as goal

abbrev pub invariant-loop-i : goal.invariant-loop-i
invariant-loop-i l = ReadTo (λ d. number_draw (next_number l.column d)) itself (length l.initial.out) (length l.initial.out) l.initial.c l.out l.i l.i l.c

abbrev pub decreases-loop-i : goal.decreases-loop-i
decreases-loop-i l = length l.initial.out - l.i
