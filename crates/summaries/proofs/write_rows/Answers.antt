-- `summaries::write_rows` meets its contract: 10, or the summary and zeros behind it.
use native.Mathlib.Omega.{arith}
use Rattle.summaries.proofs.Answers.{makes-by, no_room, written}
use Rattle.summaries.proofs.write_rows.Goals as goal

pub write-requires : goal.write-requires
write-requires c = let h = c.requires in
    (omega (arith, c.size-size.ensures, c.if-out-size.false), h.0, h.1)

pub clear-requires : goal.clear-requires
clear-requires c = omega (arith, c.write.ensures.0, c.if-out-size.false)

pub returns-then-out-size : goal.returns-then-out-size
returns-then-out-size c = let a = c.args in
    makes-by _ _ a.out.now _ _ (no_room a.n a.rows.now c.size-size.result c.size-size.ensures a.out.now c.if-out-size.true) c.refuse.ensures

pub returns : goal.returns
returns c = let a = c.args in
    written a.n a.rows.now c.size-size.result c.size-size.ensures a.out.now c.if-out-size.false c.write.new.out c.clear.new.out c.write.ensures.0 c.write.ensures.1 c.clear.ensures
