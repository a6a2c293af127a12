-- `cells::put_byte` meets its contract: the words of a byte column, and no others.
use Rattle.cells.proofs.Bytes.{byte_put}
use native.Mathlib.Omega.{arith}
use lib.ListN.{length-set}
use Rattle.cells.proofs.put_byte.Goals as goal

pub bounds-w-b-2 : goal.bounds-w-b-2
bounds-w-b-2 c = simp length-set (omega arith)

pub bounds-w-b-3 : goal.bounds-w-b-3
bounds-w-b-3 c = simp length-set (omega arith)

pub bounds-w-b-4 : goal.bounds-w-b-4
bounds-w-b-4 c = simp length-set (omega arith)

pub bounds-w-b-5 : goal.bounds-w-b-5
bounds-w-b-5 c = simp length-set (omega arith)

pub bounds-w-64 : goal.bounds-w-64
bounds-w-64 c = simp length-set (omega arith)

pub returns : goal.returns
returns c = let a = c.args in byte_put a.k a.w.now c.requires.0 c.requires.1 a.past a.from a.v a.left a.endless
