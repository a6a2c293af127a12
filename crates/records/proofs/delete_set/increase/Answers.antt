-- `increase` meets its contract: where a range is not its client's first, one stands before it.
use native.Mathlib.Omega.{arith}
use mathlib.Core.Path.{sym, ◌∙◌}
use Rattle.records.proofs.Deletes.{not-first-later, increase-first, increase-later}
use Rattle.records.proofs.delete_set.increase.Goals as goal

pub returns-then-is_first : goal.returns-then-is_first
returns-then-is_first c = let a = c.args in
    c.clock_at-clock.ensures ∙ increase-first a.ranges.now a.i (sym c.is_first.ensures ∙ c.if-is_first.true)

pub overflow_sub-i : goal.overflow_sub-i
overflow_sub-i c = let a = c.args in
    omega (arith, not-first-later a.ranges.now a.i (sym c.is_first.ensures ∙ c.if-is_first.false))

pub overflow_sub-i-2 : goal.overflow_sub-i-2
overflow_sub-i-2 c = let a = c.args in
    omega (arith, not-first-later a.ranges.now a.i (sym c.is_first.ensures ∙ c.if-is_first.false))

pub returns : goal.returns
returns c = let p1 = c in
    let p2 = c in
    let p3 = c in
    let p4 = c in
    let p5 = c in
    let p6 = c in
    let p8 = c in
    let a = p8.args in
    c.saturating_sub.ensures
    ∙ rw (p2.saturating_sub-since.ensures, p6.clock_at-clock.ensures, p3.clock_at.ensures, p1.length_at.ensures)
    (increase-later a.ranges.now a.i (sym p5.is_first.ensures ∙ p4.if-is_first.false))
