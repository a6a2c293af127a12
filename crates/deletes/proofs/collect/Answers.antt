-- `deletes::collect` meets its contract: the rows stored and those to come are all that the words take.
use Prim.Native.Nat.{◌≤◌}
use Rattle.std.specs.Prelude.{Ok}
use Rattle.std.proofs.lemmas.Result.{err_from_is_err_and}
use mathlib.Core.Path.{refl, sym, ap, subst, ◌∙◌}
use native.Mathlib.Omega.{arith}
use Rattle.numbers.specs.Limits.{max_value, max_clients}
use Rattle.decoder.specs.Update.{delete_set}
use Rattle.deletes.specs.declared.Spot.{Spot}
use Rattle.deletes.specs.Steps.{comes, after, Keeps}
use Rattle.deletes.proofs.Steps.{reads-up-to, drew, drew-not, set-begins, set-not}
use Rattle.deletes.proofs.Rows.{held-begin, held_on, held_more, held-done, held-refused, held-full}
use Rattle.deletes.proofs.collect.Goals as goal

pub returns-in_default : goal.returns-in_default
returns-in_default c = let a = c.args in let u = a.update.now in let d = delete_set a.form u a.at in
    held-refused a.words.now d _ d 0 (held-begin a.words.now d) _
    (set-not a.form u a.at _ (drew-not _ _ _ (reads-up-to u _ _ max_clients c.read_at-r.ensures) _ _ c.in_default.is c.why_read.ensures))

pub loop-client-init : goal.loop-client-init
loop-client-init c = let a = c.args in let u = a.update.now in let d = delete_set a.form u a.at in
    let b = set-begins a.form u a.at _ _ (drew _ _ _ (reads-up-to u _ _ max_clients c.read_at-r.ensures) _ _ c.in-Number.is) in
    (held_on a.words.now d _ d 0 (held-begin a.words.now d) _ (b ∙ ap (comes a.form u) (sym c.first-p.ensures)), subst (λ (q : Spot). q.client ≤ max_value) (sym c.first-p.ensures) (omega arith), refl)

pub returns-then-most-n : goal.returns-then-most-n
unfolding after
returns-then-most-n c = let a = c.args in let u = a.update.now in
    held-full a.words.now _ c.loop-client.words _ c.loop-client.n c.loop-client.invariant.0 _ _ _ (c.move_on.ensures.0 ∙ ap (after a.form u) (c.in_ok-client.was ∙ ap Ok c.in-Range.is)) (omega (arith, c.if-most-n.true, c.loop-client.invariant.2))

pub store-requires : goal.store-requires
store-requires c = omega (arith, c.if-most-n.false, c.loop-client.invariant.2, c.loop-client.invariant.0.size)

pub overflow_add-n : goal.overflow_add-n
overflow_add-n c = omega (arith, c.if-most-n.false, c.loop-client.invariant.2, c.loop-client.invariant.0.below, c.well_formed.1.1.1.0.0)

pub loop-client-smaller-in-Range : goal.loop-client-smaller-in-Range
unfolding Keeps
loop-client-smaller-in-Range c = (subst (Keeps c.loop-client.p) (c.in_ok-client.was ∙ ap Ok c.in-Range.is) c.move_on.ensures.1).0

pub loop-client-preserved-in-Range : goal.loop-client-preserved-in-Range
unfolding after Keeps
loop-client-preserved-in-Range c = let a = c.args in let u = a.update.now in
    let k = (subst (Keeps c.loop-client.p) (c.in_ok-client.was ∙ ap Ok c.in-Range.is) c.move_on.ensures.1).1 c.loop-client.invariant.1 in
    let more = held_more a.words.now _ c.loop-client.words _ c.loop-client.n c.loop-client.invariant.0 _ _ _ (c.move_on.ensures.0 ∙ ap (after a.form u) (c.in_ok-client.was ∙ ap Ok c.in-Range.is)) k.0 (omega (arith, c.if-most-n.false, c.loop-client.invariant.2)) in
    (rw c.store.ensures more, k.1, c.loop-client.invariant.2)

pub loop-client-smaller : goal.loop-client-smaller
unfolding Keeps
loop-client-smaller c = (subst (Keeps c.loop-client.p) (c.in_ok-client.was ∙ ap Ok c.in-On.is) c.move_on.ensures.1).0

pub loop-client-preserved : goal.loop-client-preserved
unfolding after Keeps
loop-client-preserved c = let a = c.args in
    (held_on a.words.now _ c.loop-client.words _ c.loop-client.n c.loop-client.invariant.0 _ (c.move_on.ensures.0 ∙ ap (after a.form a.update.now) (c.in_ok-client.was ∙ ap Ok c.in-On.is)), (subst (Keeps c.loop-client.p) (c.in_ok-client.was ∙ ap Ok c.in-On.is) c.move_on.ensures.1).1 c.loop-client.invariant.1, c.loop-client.invariant.2)

pub returns-in-Done : goal.returns-in-Done
unfolding after
returns-in-Done c = let a = c.args in held-done a.words.now _ c.loop-client.words _ c.loop-client.n c.loop-client.invariant.0 _ (c.move_on.ensures.0 ∙ ap (after a.form a.update.now) (c.in_ok-client.was ∙ ap Ok c.in-Done.is))

pub returns-in_err-client : goal.returns-in_err-client
unfolding after
returns-in_err-client c = let a = c.args in
    let p = err_from_is_err_and c.from_residual.result c.from_residual.ensures.1 in
    rw (p.1, p.2) (held-refused a.words.now _ c.loop-client.words _ c.loop-client.n c.loop-client.invariant.0 _ (c.move_on.ensures.0 ∙ ap (after a.form a.update.now) c.in_err-client.was))
