-- `opening::open_text` meets its contract: the text's place is put, or why there is none.
use mathlib.Core.Path.{refl}
use Rattle.cells.specs.Cells.{cell}
use Rattle.opening.proofs.Opening.{text-open, text-not}
use native.Mathlib.Omega.{arith}
use lib.ListN.{length-set}
use Rattle.opening.proofs.open_text.Goals as goal

pub bounds-w-36 : goal.bounds-w-36
bounds-w-36 c = simp length-set (omega arith)

pub bounds-w-37 : goal.bounds-w-37
bounds-w-37 c = simp length-set (omega arith)

pub bounds-w-38 : goal.bounds-w-38
bounds-w-38 c = simp length-set (omega arith)

pub bounds-w-40 : goal.bounds-w-40
bounds-w-40 c = simp length-set (omega arith)

pub bounds-w-41 : goal.bounds-w-41
bounds-w-41 c = simp length-set (omega arith)

pub returns-in-Not : goal.returns-in-Not
unfolding cell
returns-in-Not c = let b = c in
    let a = b.args in
    text-not a.update.now a.w.now b.requires _ _ _ refl c.upto.ensures c.open.ensures _ _ _ c.in-Not.is c.refuse.ensures

pub returns-in-At : goal.returns-in-At
unfolding cell
returns-in-At c = let b = c in
    let a = b.args in
    text-open a.update.now a.w.now b.requires _ _ _ refl c.upto.ensures c.open.ensures _ c.in-At.is
