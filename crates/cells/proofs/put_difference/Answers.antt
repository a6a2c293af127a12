-- `cells::put_difference` meets its contract: each return is an arm of `drawn`, by the tests that led there.
use Rattle.columns.specs.Difference.{place_at}
use Rattle.cells.specs.Cells.{cell}
use Rattle.cells.proofs.Differences.{drawn-low, drawn-high, difference-refused, difference-put, room_at, short-here}
use native.Mathlib.Omega.{arith}
use lib.ListN.{length-set}
use Rattle.cells.proofs.put_difference.Goals as goal

pub overflow_add-sum-2 : goal.overflow_add-sum-2
unfolding cell
overflow_add-sum-2 c = let b = c in
    omega (arith, short-here b.args.k b.args.w.now b.requires.0 b.requires.1)

pub returns-then-sum-lt2147483648 : goal.returns-then-sum-lt2147483648
unfolding cell
returns-then-sum-lt2147483648 c = let r = c in
    let a = r.args in
    difference-refused a.k a.w.now _ _ _ _ (drawn-low (place_at a.past a.from (cell a.w.now a.k 2) a.key _) r.if-sum-lt2147483648.true) r.refuse.ensures

pub returns-then-v-gt-MAX_CLOCK : goal.returns-then-v-gt-MAX_CLOCK
unfolding cell
returns-then-v-gt-MAX_CLOCK c = let r = c in
    let t = c in
    let a = t.args in
    difference-refused a.k a.w.now _ _ _ _ (drawn-high (place_at a.past a.from (cell a.w.now a.k 2) a.key _) t.if-sum-lt2147483648.false t.if-v-gt-MAX_CLOCK.true) r.refuse-then-v-gt-MAX_CLOCK.ensures

pub bounds-w-b-3 : goal.bounds-w-b-3
bounds-w-b-3 c = simp length-set (omega arith)

pub bounds-w-b-4 : goal.bounds-w-b-4
bounds-w-b-4 c = simp length-set (omega arith)

pub bounds-w-b-5 : goal.bounds-w-b-5
bounds-w-b-5 c = simp length-set (omega arith)

pub bounds-w-b-6 : goal.bounds-w-b-6
bounds-w-b-6 c = simp length-set (omega arith)

pub bounds-w-64 : goal.bounds-w-64
bounds-w-64 c = simp length-set (omega arith)

pub returns : goal.returns
unfolding cell
returns c = let b = c in
    let a = b.args in
    difference-put a.k a.w.now b.requires.0 b.requires.1 (room_at a.k a.w.now b.requires.0 b.requires.3) a.past a.from a.key a.left b.requires.2 c.if-sum-lt2147483648.false c.if-v-gt-MAX_CLOCK.false
