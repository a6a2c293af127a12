-- `plan_rows` meets its contract: each row is seen once, in reading order, and then the last section ends.
use Rattle.std.proofs.Common.{◌+◌, List, ℕ, get_or, sym, ap, subst, ◌∙◌}
use Rattle.block.specs.Row.{no_block}
use Rattle.kept.specs.declared.plan.Planning.{Planning}
use Rattle.kept.specs.Plan.{entries_of, plan_step, plan_words}
use Rattle.encoder.proofs.Plans.{Seen, turns, outcome-is, words_are}
use Rattle.encoder.proofs.plan_rows.Goals as goal

pub loop-i-preserved : goal.loop-i-preserved
loop-i-preserved c = let a = c.args in
    let v = entries_of a.m a.clients.now a.clocks.now in
    let s = ap (plan_step a.update.now v c.loop-i.plan c.loop-i.s c.loop-i.i) c.fetch-b.ensures in
    let w = ap (plan_words c.loop-i.plan c.loop-i.s) c.fetch-b.ensures in
    subst (λ (x : Planning). Seen a.update.now v a.plan.now a.rows.now a.n x (c.loop-i.i + 1) c.see-s.new.plan) (sym (c.see-s.ensures.0 ∙ s))
    (subst (λ (x : List ℕ). Seen a.update.now v a.plan.now a.rows.now a.n (plan_step a.update.now v c.loop-i.plan c.loop-i.s c.loop-i.i (get_or a.rows.now c.loop-i.i no_block)) (c.loop-i.i + 1) x) (sym (c.see-s.ensures.1 ∙ w))
    (turns a.update.now v a.plan.now a.rows.now a.n c.requires c.loop-i.s c.loop-i.i c.loop-i.plan c.loop-i.invariant c.loop-i-test.true))

pub returns : goal.returns
returns c = let a = c.args in
    let v = entries_of a.m a.clients.now a.clocks.now in (
      c.end_plan.ensures.0 ∙ outcome-is a.update.now v a.plan.now a.rows.now a.n c.requires c.loop-i.s c.loop-i.i c.loop-i.plan c.loop-i.invariant c.loop-i-test.false,
      c.end_plan.ensures.1 ∙ words_are a.update.now v a.plan.now a.rows.now a.n c.requires c.loop-i.s c.loop-i.i c.loop-i.plan c.loop-i.invariant c.loop-i-test.false,
    )
