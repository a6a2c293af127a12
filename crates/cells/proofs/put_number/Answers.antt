-- `cells::put_number` meets its contract: the run is put with its first value drawn, or its value is over the limit.
use Rattle.cells.proofs.Numbers.{run-put, run-refused}
use native.Mathlib.Omega.{arith}
use lib.ListN.{length-set}
use Rattle.cells.proofs.put_number.Goals as goal

pub returns-then-x-gt-MAX_VALUE : goal.returns-then-x-gt-MAX_VALUE
returns-then-x-gt-MAX_VALUE c = let b = c in
    let a = b.args in
    run-refused a.k a.w.now b.requires.0 b.requires.1 _ _ a.past a.from a.x a.left c.if-x-gt-MAX_VALUE.true c.refuse.ensures

pub bounds-w-b-2 : goal.bounds-w-b-2
bounds-w-b-2 c = simp length-set (omega arith)

pub bounds-w-b-3 : goal.bounds-w-b-3
bounds-w-b-3 c = simp length-set (omega arith)

pub bounds-w-b-4 : goal.bounds-w-b-4
bounds-w-b-4 c = simp length-set (omega arith)

pub bounds-w-64 : goal.bounds-w-64
bounds-w-64 c = simp length-set (omega arith)

pub returns : goal.returns
returns c = let b = c in
    let a = b.args in
    run-put a.k a.w.now b.requires.0 b.requires.1 a.past a.from a.x a.left c.if-x-gt-MAX_VALUE.false
