-- `item::begin_row` meets its contract: word by word.
use native.Mathlib.Omega.{arith}
use lib.ListN.{length-set}
use Rattle.item.proofs.Rows.{begun-put}
use Rattle.item.proofs.begin_row.Goals as goal

pub bounds-r-1 : goal.bounds-r-1
bounds-r-1 c = simp length-set (omega arith)

pub bounds-r-2 : goal.bounds-r-2
bounds-r-2 c = simp length-set (omega arith)

pub bounds-r-3 : goal.bounds-r-3
bounds-r-3 c = simp length-set (omega arith)

pub bounds-r-4 : goal.bounds-r-4
bounds-r-4 c = simp length-set (omega arith)

pub bounds-r-5 : goal.bounds-r-5
bounds-r-5 c = simp length-set (omega arith)

pub bounds-r : goal.bounds-r
bounds-r c = simp length-set (omega arith)

pub bounds-r-7 : goal.bounds-r-7
bounds-r-7 c = simp length-set (omega arith)

pub bounds-r-8 : goal.bounds-r-8
bounds-r-8 c = simp length-set (omega arith)

pub bounds-r-6 : goal.bounds-r-6
bounds-r-6 c = simp length-set (omega arith)

pub bounds-r-10 : goal.bounds-r-10
bounds-r-10 c = simp length-set (omega arith)

pub bounds-r-11 : goal.bounds-r-11
bounds-r-11 c = simp length-set (omega arith)

pub bounds-r-9 : goal.bounds-r-9
bounds-r-9 c = simp length-set (omega arith)

pub bounds-r-13 : goal.bounds-r-13
bounds-r-13 c = simp length-set (omega arith)

pub bounds-r-14 : goal.bounds-r-14
bounds-r-14 c = simp length-set (omega arith)

pub bounds-r-12 : goal.bounds-r-12
bounds-r-12 c = simp length-set (omega arith)

pub bounds-r-16 : goal.bounds-r-16
bounds-r-16 c = simp length-set (omega arith)

pub bounds-r-17 : goal.bounds-r-17
bounds-r-17 c = simp length-set (omega arith)

pub bounds-r-15 : goal.bounds-r-15
bounds-r-15 c = simp length-set (omega arith)

pub bounds-r-19 : goal.bounds-r-19
bounds-r-19 c = simp length-set (omega arith)

pub bounds-r-18 : goal.bounds-r-18
bounds-r-18 c = simp length-set (omega arith)

pub bounds-r-21 : goal.bounds-r-21
bounds-r-21 c = simp length-set (omega arith)

pub bounds-r-20 : goal.bounds-r-20
bounds-r-20 c = simp length-set (omega arith)

pub bounds-r-23 : goal.bounds-r-23
bounds-r-23 c = simp length-set (omega arith)

pub returns : goal.returns
returns c = let b = c in
    begun-put b.args.r.now b.args.client b.args.clock b.requires.0 (omega arith)
