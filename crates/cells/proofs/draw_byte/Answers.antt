-- `cells::draw_byte` meets its contract: each return is an arm of `nextByte`, by what is left of the run.
use Rattle.cells.specs.Cells.{cell}
use Rattle.cells.proofs.Bytes.{byte-endless, byte-on, byte-goes-endless, byte-goes-on}
use native.Mathlib.Omega.{arith}
use lib.ListN.{length-set}
use Rattle.cells.proofs.draw_byte.Goals as goal

pub returns-then-w-b-eq1 : goal.returns-then-w-b-eq1
unfolding cell
returns-then-w-b-eq1 c = let b = c in
    let a = b.args in
    byte-goes-endless a.update.now a.w.now a.k _ c.if-w-b-eq1.true (byte-endless a.k a.w.now b.requires.0 b.requires.1)

pub begin_bytes-requires : goal.begin_bytes-requires
unfolding cell
begin_bytes-requires c = let b = c in
    (b.requires.0, b.requires.1, c.if-count-eq0.true, c.if-w-b-eq1.false)

pub bounds-w-64-2 : goal.bounds-w-64-2
bounds-w-64-2 c = simp length-set (omega arith)

pub returns : goal.returns
unfolding cell
returns c = let b = c in
    let a = b.args in
    let h = c.if-w-b-eq1.false in
    byte-goes-on a.update.now a.w.now a.k _ h c.if-count-eq0.false (byte-on a.k a.w.now b.requires.0 b.requires.1 h)
