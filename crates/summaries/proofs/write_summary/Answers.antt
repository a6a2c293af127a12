-- `summaries::write_summary` meets its contract: form, length, update, room.
use mathlib.Core.Path.{ap, ◌∙◌}
use native.Mathlib.Omega.{arith}
use lib.ListN.{length}
use Rattle.gathered.specs.RowsOf.{told_of}
use Rattle.summaries.specs.Promises.{fitted}
use Rattle.summaries.proofs.Answers.{makes-by, says-rows, says-refused, no-form, other-form, too_long, is-told, of-rows, of-refused}
use Rattle.summaries.proofs.write_summary.Goals as goal

pub returns-then-form-lt1 : goal.returns-then-form-lt1
returns-then-form-lt1 c = let a = c.args in
    makes-by _ _ a.out.now _ _ (no-form a.form a.update.now (length a.out.now) c.if-form-lt1.true) c.refuse.ensures

pub returns-then-form-gt2 : goal.returns-then-form-gt2
returns-then-form-gt2 c = let a = c.args in
    makes-by _ _ a.out.now _ _ (other-form a.form a.update.now (length a.out.now) c.if-form-lt1.false c.if-form-gt2.true) c.refuse-then-form-gt2.ensures

pub returns-then-update-gt-MAX_UPDATE : goal.returns-then-update-gt-MAX_UPDATE
returns-then-update-gt-MAX_UPDATE c = let a = c.args in
    makes-by _ _ a.out.now _ _ (too_long a.form a.update.now (length a.out.now) c.if-form-lt1.false c.if-form-gt2.false c.if-update-gt-MAX_UPDATE.true) c.refuse-then-update-gt-MAX_UPDATE.ensures

pub write_rows-requires : goal.write_rows-requires
write_rows-requires c = let a = c.args in
    let says = says-rows (told_of a.form a.update.now) _ c.gather.result _ c.gather.ensures c.in-Ok.is in
    (omega (arith, says.few), says.few)

pub returns-in-Ok : goal.returns-in-Ok
returns-in-Ok c = let a = c.args in
    let says = says-rows (told_of a.form a.update.now) _ c.gather.result _ c.gather.ensures c.in-Ok.is in
    makes-by _ _ a.out.now _ _ (is-told a.form a.update.now (length a.out.now) c.if-form-lt1.false c.if-form-gt2.false c.if-update-gt-MAX_UPDATE.false _ says.are ∙ ap (fitted (length a.out.now)) (of-rows _)) c.write_rows.ensures

pub returns-in-Err : goal.returns-in-Err
returns-in-Err c = let a = c.args in
    let says = says-refused (told_of a.form a.update.now) _ c.gather.result _ c.gather.ensures c.in-Err.is in
    makes-by _ _ a.out.now _ _ (is-told a.form a.update.now (length a.out.now) c.if-form-lt1.false c.if-form-gt2.false c.if-update-gt-MAX_UPDATE.false _ says ∙ of-refused _ _) c.refuse-in-Err.ensures
