-- `cells::draw_difference` meets its contract: each return is an arm of `nextDifference`, by what is left of the run and the tests that led there.
use Rattle.cells.specs.Cells.{cell, differences_in}
use Rattle.cells.proofs.Differences.{drawn-low, drawn-high, difference-refused, difference-on, difference-goes-on, short-here}
use native.Mathlib.Omega.{arith}
use lib.ListN.{length-set}
use Rattle.cells.proofs.draw_difference.Goals as goal

pub begin_differences-requires : goal.begin_differences-requires
unfolding cell
begin_differences-requires c = let b = c in
    (b.requires.0, b.requires.1, c.if-count-eq0.true)

pub overflow_add-sum-3 : goal.overflow_add-sum-3
unfolding cell
overflow_add-sum-3 c = let b = c in
    omega (arith, short-here b.args.k b.args.w.now b.requires.0 b.requires.1)

pub returns-then-sum-lt2147483648 : goal.returns-then-sum-lt2147483648
unfolding cell differences_in
returns-then-sum-lt2147483648 c = let r = c in
    let t = c in
    let e = c in
    let a = e.args in
    difference-goes-on a.update.now a.w.now a.k _ _ e.if-count-eq0.false
    (difference-refused a.k a.w.now _ _ _ _ (drawn-low (differences_in a.w.now a.k).place t.if-sum-lt2147483648.true) r.refuse.ensures)

pub returns-then-v-gt-MAX_CLOCK : goal.returns-then-v-gt-MAX_CLOCK
unfolding cell differences_in
returns-then-v-gt-MAX_CLOCK c = let r = c in
    let t = c in
    let e = c in
    let a = e.args in
    difference-goes-on a.update.now a.w.now a.k _ _ e.if-count-eq0.false
    (difference-refused a.k a.w.now _ _ _ _ (drawn-high (differences_in a.w.now a.k).place t.if-sum-lt2147483648.false t.if-v-gt-MAX_CLOCK.true) r.refuse-then-v-gt-MAX_CLOCK.ensures)

pub bounds-w-b-6 : goal.bounds-w-b-6
bounds-w-b-6 c = simp length-set (omega arith)

pub bounds-w-64 : goal.bounds-w-64
bounds-w-64 c = simp length-set (omega arith)

pub returns : goal.returns
unfolding cell
returns c = let e = c in
    let b = c in
    let a = b.args in
    difference-goes-on a.update.now a.w.now a.k _ _ e.if-count-eq0.false
    (difference-on a.k a.w.now b.requires.0 b.requires.1 e.if-count-eq0.false (short-here a.k a.w.now b.requires.0 b.requires.1).1 c.if-sum-lt2147483648.false c.if-v-gt-MAX_CLOCK.false)
