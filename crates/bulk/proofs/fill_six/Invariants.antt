-- `bulk::fill_six` meets its contract: i of them stand from `at` on.
use Rattle.std.proofs.Common.{◌≡◌, ◌+◌, ◌++◌, length, take, replicate}
use Rattle.bulk.proofs.fill_six.Given as goal

abbrev pub invariant-loop-i : goal.invariant-loop-i
invariant-loop-i l = (take (l.at + l.i) l.out ≡ take l.at l.initial.out ++ replicate l.i l.v) × (length l.out ≡ length l.initial.out)
