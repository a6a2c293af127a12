-- `explains::explain` meets its contract: form, length, the whole update, then the block.
use native.Mathlib.Omega.{arith}
use mathlib.Core.Path.{sym, ap, ◌∙◌}
use lib.ListN.{length}
use Rattle.explains.specs.Promises.{fitting}
use Rattle.explains.proofs.Answers.{gives-by, no-form, other-form, too_long, not-read, is_read}
use Rattle.explains.proofs.Wholes.{readable}
use Rattle.explains.proofs.explain.Goals as goal

pub returns-then-form-lt1 : goal.returns-then-form-lt1
returns-then-form-lt1 c = let a = c.args in
    gives-by _ _ a.out.now _ _ (no-form a.form a.update.now a.n (length a.out.now) c.if-form-lt1.true) c.refuse.ensures

pub returns-then-form-gt2 : goal.returns-then-form-gt2
returns-then-form-gt2 c = let a = c.args in
    gives-by _ _ a.out.now _ _ (other-form a.form a.update.now a.n (length a.out.now) c.if-form-lt1.false c.if-form-gt2.true) c.refuse-then-form-gt2.ensures

pub returns-then-update-gt-MAX_UPDATE : goal.returns-then-update-gt-MAX_UPDATE
returns-then-update-gt-MAX_UPDATE c = let a = c.args in
    gives-by _ _ a.out.now _ _ (too_long a.form a.update.now a.n (length a.out.now) c.if-form-lt1.false c.if-form-gt2.false c.if-update-gt-MAX_UPDATE.true) c.refuse-then-update-gt-MAX_UPDATE.ensures

pub explain_block-lines-requires : goal.explain_block-lines-requires
explain_block-lines-requires c = let a = c.args in
    (omega arith, readable a.form a.update.now (sym c.in-Ok.is ∙ c.read_whole.ensures))

pub returns-in-Ok : goal.returns-in-Ok
returns-in-Ok c = let a = c.args in
    let e = is_read a.form a.update.now a.n (length a.out.now) c.if-form-lt1.false c.if-form-gt2.false c.if-update-gt-MAX_UPDATE.false (sym c.in-Ok.is ∙ c.read_whole.ensures) in
    gives-by _ _ a.out.now _ _ (e ∙ ap (fitting (length a.out.now)) (sym c.explain_block-lines.ensures.0)) c.told.ensures

pub returns-in-Err : goal.returns-in-Err
returns-in-Err c = let a = c.args in
    let e = not-read a.form a.update.now a.n (length a.out.now) c.if-form-lt1.false c.if-form-gt2.false c.if-update-gt-MAX_UPDATE.false _ (sym c.in-Err.is ∙ c.read_whole.ensures) in
    gives-by _ _ a.out.now _ _ e c.refuse-in-Err.ensures
