-- `explains::read_whole` meets its contract: the form opened, the blocks scanned, the delete set checked.
use Rattle.std.proofs.lemmas.Result.{err_from_is_err_and}
use native.Mathlib.Omega.{arith}
use mathlib.Core.Path.{sym, ◌∙◌}
use lib.ListN.{replicate}
use Rattle.update.proofs.Answers.{begun-at, begun-refused}
use Rattle.update.proofs.Laws.{fresh, fresh-enough}
use Rattle.explains.proofs.Wholes.{not-begun, not-scanned, not-checked, reads}
use Rattle.explains.proofs.read_whole.Goals as goal

pub begin-requires : goal.begin-requires
begin-requires c = (fresh, λ _. fresh-enough c.args.update.now)

pub returns-in_err-s : goal.returns-in_err-s
returns-in_err-s c = let a = c.args in
    let p = err_from_is_err_and c.from_residual.result c.from_residual.ensures.1 in
    rw (p.1, p.2) (not-begun a.form a.update.now _ (begun-refused a.form a.update.now _ c.begin.result c.begin.ensures (replicate 64 0) _ c.in_err-s.was))

pub scan-requires : goal.scan-requires
scan-requires c = let a = c.args in
    let h = begun-at a.form a.update.now _ c.begin.result c.begin.ensures (replicate 64 0) (omega arith) _ c.in_ok-s.was in
    (c.begin.ensures.small, h.1)

pub returns-in-Err : goal.returns-in-Err
returns-in-Err c = let a = c.args in
    let h = begun-at a.form a.update.now _ c.begin.result c.begin.ensures (replicate 64 0) (omega arith) _ c.in_ok-s.was in
    not-scanned a.form a.update.now 0 _ h.0 _ (sym c.scan.ensures ∙ c.in-Err.is)

pub returns-in-Err-check_delete_set : goal.returns-in-Err-check_delete_set
returns-in-Err-check_delete_set c = let a = c.args in
    let h = begun-at a.form a.update.now _ c.begin.result c.begin.ensures (replicate 64 0) (omega arith) _ c.in_ok-s.was in
    not-checked a.form a.update.now 0 _ h.0 _ _ (sym c.scan.ensures ∙ c.in-Ok.is) c.check_delete_set.result (sym c.check_delete_set.ensures) _ c.in-Err-check_delete_set.is

pub returns-in-Ok-check_delete_set : goal.returns-in-Ok-check_delete_set
returns-in-Ok-check_delete_set c = let a = c.args in
    let h = begun-at a.form a.update.now _ c.begin.result c.begin.ensures (replicate 64 0) (omega arith) _ c.in_ok-s.was in
    reads a.form a.update.now 0 _ h.0 _ _ (sym c.scan.ensures ∙ c.in-Ok.is) c.check_delete_set.result (sym c.check_delete_set.ensures) _ c.in-Ok-check_delete_set.is
