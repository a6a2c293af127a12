-- `encode_planned` meets its contract: the planned rows and the ranges are written in the form, or 10 where there is no room.
use Rattle.std.proofs.Common.{arith, ◌∙◌}
use borrow.Author.Tests.{lt-ltb, le-ltb}
use Rattle.ranges.specs.TableInner.{rows_from}
use Rattle.writing.specs.Writing.{job}
use Rattle.writing.proofs.Exits.{told-end, told-done}
use Rattle.writing.proofs.encode_planned.Goals as goal

pub returns-then-out-used : goal.returns-then-out-used
returns-then-out-used c = let a = c.args in
    let w = c.write-used in
    let t = told-end (job a.update.now a.rows.now a.plan.now a.sections (rows_from a.ranges.now 0 a.n)) a.form a.out.now a.sizes.now c.requires.0
    w.ensures.0 w.ensures.1 w.auto.out (lt-ltb _ _ (omega (arith, c.if-out-used.true, w.auto.out))) in
    (c.refuse.ensures.0 ∙ t.0, c.refuse.ensures.1 ∙ t.1)

pub returns : goal.returns
returns c = let a = c.args in
    let w = c.write-used in
    let t = told-done (job a.update.now a.rows.now a.plan.now a.sections (rows_from a.ranges.now 0 a.n)) a.form a.out.now a.sizes.now c.requires.0
    w.ensures.0 w.ensures.1 w.auto.out (le-ltb _ _ (omega (arith, c.if-out-used.false, w.auto.out))) in
    (c.finish.ensures.0 ∙ t.0, c.finish.ensures.1 ∙ t.1)
