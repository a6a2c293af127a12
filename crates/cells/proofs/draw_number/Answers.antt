-- `cells::draw_number` meets its contract: the run under way goes on, or the next one begins.
use Rattle.cells.proofs.Numbers.{run_on, run-over, number-drawn, next-on}
use Rattle.cells.specs.Cells.{cell}
use mathlib.Core.Path.{refl}
use native.Mathlib.Omega.{arith}
use lib.ListN.{length-set}
use borrow.Author.Rules.{rules}
use Rattle.cells.proofs.draw_number.Goals as goal

pub begin_numbers-requires : goal.begin_numbers-requires
unfolding cell
begin_numbers-requires c = search rules

pub returns-then-count-eq0 : goal.returns-then-count-eq0
returns-then-count-eq0 c = c.begin_numbers.ensures

pub returns-then-last-gt-MAX_VALUE : goal.returns-then-last-gt-MAX_VALUE
unfolding cell
returns-then-last-gt-MAX_VALUE c = let b = c in
    let a = b.args in
    number-drawn a.update.now a.w.now a.k _ _ _ (next-on a.update.now a.w.now a.k c.if-count-eq0.false)
    (run-over a.k a.w.now b.requires.0 b.requires.1 _ _ _ _ refl refl c.if-last-gt-MAX_VALUE.true c.refuse.ensures)

pub bounds-w-64 : goal.bounds-w-64
bounds-w-64 c = simp length-set (omega arith)

pub returns : goal.returns
unfolding cell
returns c = let b = c in
    let a = b.args in
    number-drawn a.update.now a.w.now a.k _ _ _ (next-on a.update.now a.w.now a.k c.if-count-eq0.false)
    (run_on a.k a.w.now b.requires.0 b.requires.1 _ _ _ refl refl refl c.if-last-gt-MAX_VALUE.false)
