-- `deletes::check_delete_set` meets its contract: what follows the last range, from here, is what follows it from the start.
use Rattle.std.specs.Prelude.{Ok}
use Rattle.std.proofs.lemmas.Result.{err_from_is_err_and}
use mathlib.Core.Path.{sym, ap, subst, ◌∙◌}
use Rattle.numbers.specs.Limits.{max_clients}
use Rattle.grammar.specs.Course.{ending}
use Rattle.deletes.specs.Steps.{comes, after, Keeps}
use Rattle.deletes.proofs.Steps.{reads-up-to, drew, drew-not, set-begins, set-not}
use Rattle.deletes.proofs.check_delete_set.Invariants.{ends}
use Rattle.deletes.proofs.check_delete_set.Goals as goal

pub returns-in_default : goal.returns-in_default
unfolding ending
returns-in_default c = let a = c.args in let u = a.update.now in
    sym (ap ends (set-not a.form u a.at _ (drew-not _ _ _ (reads-up-to u _ _ max_clients c.read_at-r.ensures) _ _ c.in_default.is c.why_read.ensures)))

pub loop-t-init : goal.loop-t-init
loop-t-init c = let a = c.args in let u = a.update.now in
    ap ends (ap (comes a.form u) c.first-p.ensures ∙ sym (set-begins a.form u a.at _ _ (drew _ _ _ (reads-up-to u _ _ max_clients c.read_at-r.ensures) _ _ c.in-Number.is)))

pub loop-t-smaller-in-Range : goal.loop-t-smaller-in-Range
unfolding Keeps
loop-t-smaller-in-Range c = (subst (Keeps c.loop-t.p) (c.in_ok-t.was ∙ ap Ok c.in-Range.is) c.move_on.ensures.1).0

pub loop-t-preserved-in-Range : goal.loop-t-preserved-in-Range
unfolding after ending
loop-t-preserved-in-Range c = let a = c.args in sym (ap ends (c.move_on.ensures.0 ∙ ap (after a.form a.update.now) (c.in_ok-t.was ∙ ap Ok c.in-Range.is))) ∙ c.loop-t.invariant

pub loop-t-smaller : goal.loop-t-smaller
unfolding Keeps
loop-t-smaller c = (subst (Keeps c.loop-t.p) (c.in_ok-t.was ∙ ap Ok c.in-On.is) c.move_on.ensures.1).0

pub loop-t-preserved : goal.loop-t-preserved
unfolding after
loop-t-preserved c = let a = c.args in sym (ap ends (c.move_on.ensures.0 ∙ ap (after a.form a.update.now) (c.in_ok-t.was ∙ ap Ok c.in-On.is))) ∙ c.loop-t.invariant

pub returns-in-Done : goal.returns-in-Done
unfolding after ending
returns-in-Done c = let a = c.args in sym (ap ends (c.move_on.ensures.0 ∙ ap (after a.form a.update.now) (c.in_ok-t.was ∙ ap Ok c.in-Done.is))) ∙ c.loop-t.invariant

pub returns-in_err-t : goal.returns-in_err-t
unfolding after ending
returns-in_err-t c = let a = c.args in
    let p = err_from_is_err_and c.from_residual.result c.from_residual.ensures.1 in
    rw (p.1, p.2) (sym (ap ends (c.move_on.ensures.0 ∙ ap (after a.form a.update.now) c.in_err-t.was)) ∙ c.loop-t.invariant)
