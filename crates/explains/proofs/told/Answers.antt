-- `explains::told` meets its contract: 11, 10, or the sheet's lines and zeros behind them.
use native.Mathlib.Omega.{arith}
use lib.Seq.{length-take-le}
use Rattle.std.proofs.Common.{◌≡◌, ◌*◌, ◌∙◌, ◌++◌, length, drop, length-append, length-drop}
use Rattle.std.proofs.lemmas.Slice.{take-put_mid}
use Rattle.explains.proofs.Answers as answers
use Rattle.explains.proofs.Answers.{gives-by, no_block, no_room}
use Rattle.explains.proofs.told.Goals as goal

pub returns-then-lines-eq0 : goal.returns-then-lines-eq0
returns-then-lines-eq0 c = let a = c.args in
    gives-by _ _ a.out.now _ _ (no_block (length a.out.now) a.sheet.now a.lines c.if-lines-eq0.true) c.refuse.ensures

pub returns-then-out-n : goal.returns-then-out-n
returns-then-out-n c = let a = c.args in
    gives-by _ _ a.out.now _ _ (no_room (length a.out.now) a.sheet.now a.lines c.if-lines-eq0.false c.if-out-n.true) c.refuse-then-out-n.ensures

pub returns : goal.returns
returns c = let a = c.args in
    let h = c.requires in
    let n = 12 * a.lines in
    let p = c.copy_from_slice.new.self in
    let part : length p ≡ n = c.copy_from_slice.ensures.len ∙ length-take-le n a.out.now c.if-out-n.false in
    let long : length (p ++ drop n a.out.now) ≡ length a.out.now = length-append p (drop n a.out.now) ∙ omega (arith, part, length-drop n a.out.now, c.if-out-n.false) in
    answers.told a.out.now a.sheet.now a.lines c.if-lines-eq0.false c.if-out-n.false (omega (arith, h.0, h.1)) _ _ long
    (take-put_mid 0 n a.out.now p n (omega (arith, part)) (omega arith) ∙ c.copy_from_slice.ensures.after) c.clear.ensures
