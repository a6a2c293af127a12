-- `placing::seek_range` meets its contract: what is sought lies in the span that is left.
use mathlib.Core.Path.{◌≡◌}
use Prim.Native.Nat.{◌-◌, ◌≤◌}
use Rattle.ranges.specs.TableInner.{row}
use Rattle.placing.specs.Halving.{found}
use Rattle.placing.specs.Placing.{is_before}
use Rattle.placing.proofs.seek_range.Given as goal

abbrev pub invariant-loop-s : goal.invariant-loop-s
invariant-loop-s l = (found (λ i. is_before (row l.words i) l.id) l.s.lo l.s.hi ≡ found (λ i. is_before (row l.words i) l.id) 0 l.n) × (l.s.hi ≤ l.n)

abbrev pub decreases-loop-s : goal.decreases-loop-s
decreases-loop-s l = l.s.hi - l.s.lo
