-- `gathered::gather` meets its contract: the form opened, the sections scanned, the delete set checked, the rows put in order.
use Rattle.std.specs.Prelude.{Err}
use Rattle.std.proofs.lemmas.Result.{err_from_is_err_and}
use mathlib.Core.Path.{refl, ap, ◌∙◌}
use native.Mathlib.Omega.{arith}
use Rattle.update.proofs.Laws.{fresh, fresh-enough}
use Rattle.gathered.proofs.Heads.{begins-at, begins-not}
use Rattle.gathered.proofs.Gathers.{not-begun, can-be, not-scanned, few-sections, not-checked, gathers}
use Rattle.gathered.proofs.gather.Goals as goal

pub begin-requires : goal.begin-requires
begin-requires c = (fresh, λ _. fresh-enough c.args.update.now)

pub returns-in_default : goal.returns-in_default
returns-in_default c = let a = c.args in
    let u = a.update.now in
    let told = c.in_default.is in
    not-begun a.form u _ _ _ (begins-not a.form u c.begin.new.w c.begin.result c.begin.ensures.1 told) (ap Err c.why.ensures)

pub scan-requires : goal.scan-requires
scan-requires c = let a = c.args in
    let u = a.update.now in
    let h = begins-at a.form u c.begin.new.w c.begin.result c.begin.ensures.1 _ c.in-Some.is in
    (c.begin.ensures.0, h.1, refl, refl, can-be a.form u _ h.0)

pub returns-in_err-n : goal.returns-in_err-n
returns-in_err-n c = let a = c.args in
    let u = a.update.now in
    let h = begins-at a.form u c.begin.new.w c.begin.result c.begin.ensures.1 _ c.in-Some.is in
    let p = err_from_is_err_and c.from_residual.result c.from_residual.ensures.1 in
    not-scanned a.form u _ h.0 _ _ c.scan.result c.scan.ensures _ _ _ c.in_err-n.was (p.1 ∙ ap Err p.2)

pub returns-in_err-check_delete_set : goal.returns-in_err-check_delete_set
returns-in_err-check_delete_set c = let a = c.args in
    let u = a.update.now in
    let h = begins-at a.form u c.begin.new.w c.begin.result c.begin.ensures.1 _ c.in-Some.is in
    let p = err_from_is_err_and c.from_residual-in_err-check_delete_set.result c.from_residual-in_err-check_delete_set.ensures.1 in
    not-checked a.form u _ h.0 _ _ c.scan.result c.scan.ensures _ _ c.in_ok-n.was _ _ c.check_delete_set.result _ c.check_delete_set.ensures c.in_err-check_delete_set.was (p.1 ∙ ap Err p.2)

pub ordered-requires : goal.ordered-requires
ordered-requires c = let a = c.args in
    let u = a.update.now in
    let h = begins-at a.form u c.begin.new.w c.begin.result c.begin.ensures.1 _ c.in-Some.is in
    let few = few-sections a.form u _ h.0 _ _ c.scan.result c.scan.ensures _ _ c.in_ok-n.was in
    (omega (arith, few, c.scan.auto.order), few, c.scan.auto.rows, c.requires)

pub returns : goal.returns
returns c = let a = c.args in
    let u = a.update.now in
    let h = begins-at a.form u c.begin.new.w c.begin.result c.begin.ensures.1 _ c.in-Some.is in
    gathers a.form u _ h.0 _ _ c.scan.result c.scan.ensures _ _ c.in_ok-n.was _ c.ordered.result _ c.check_delete_set.result c.ordered.ensures.0 c.ordered.ensures.1 c.check_delete_set.ensures c.in_ok-check_delete_set.was
