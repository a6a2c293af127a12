-- `opening::put_column` meets its contract: seven words of a column.
use native.Mathlib.Omega.{arith}
use lib.ListN.{length-set}
use Rattle.opening.proofs.Opening.{column-put}
use Rattle.opening.proofs.put_column.Goals as goal

pub bounds-w-b-2 : goal.bounds-w-b-2
bounds-w-b-2 c = simp length-set (omega arith)

pub bounds-w-b-3 : goal.bounds-w-b-3
bounds-w-b-3 c = simp length-set (omega arith)

pub bounds-w-b-4 : goal.bounds-w-b-4
bounds-w-b-4 c = simp length-set (omega arith)

pub bounds-w-b-5 : goal.bounds-w-b-5
bounds-w-b-5 c = simp length-set (omega arith)

pub bounds-w-b-6 : goal.bounds-w-b-6
bounds-w-b-6 c = simp length-set (omega arith)

pub bounds-w-b-7 : goal.bounds-w-b-7
bounds-w-b-7 c = simp length-set (omega arith)

pub returns : goal.returns
returns c = column-put c.args.k c.args.w.now c.requires.0 c.requires.1 c.args.from c.args.to c.requires.2
