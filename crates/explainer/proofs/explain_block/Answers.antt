-- `explainer::explain_block` meets its contract: form 1 is followed from its first byte, any other behind its columns.
use native.Mathlib.Omega.{arith}
use mathlib.Core.Path.{◌∙◌}
use lib.ListN.{replicate}
use Rattle.update.proofs.Laws.{fresh, fresh-enough}
use Rattle.explainer.proofs.Forms.{line_reads, line-explains, column-reads, column-explains, unopened-explains, fresh_at, opened-as}
use Rattle.explainer.proofs.explain_block.Goals as goal

pub follow-requires : goal.follow-requires
follow-requires c = let a = c.args in
    let p = c.requires in
    (fresh, p.0, line_reads a.form a.update.now (replicate 580 0) c.if-form-eq1.true fresh_at p.1)

pub returns-then-form-eq1 : goal.returns-then-form-eq1
returns-then-form-eq1 c = let a = c.args in
    let f = c.follow.ensures in
    (f.0 ∙ line-explains a.form a.update.now (replicate 580 0) c.if-form-eq1.true fresh_at a.n, f.1)

pub open-requires : goal.open-requires
open-requires c = (fresh, fresh-enough c.args.update.now)

pub returns-in_default : goal.returns-in_default
returns-in_default c = let a = c.args in
    (unopened-explains a.form a.update.now _ c.if-form-eq1.false _ a.n (opened-as _ _ _ _ c.open.ensures.1 c.in_default.is), omega arith)

pub follow-requires-2 : goal.follow-requires-2
follow-requires-2 c = let a = c.args in
    let p = c.requires in
    let o = c.open.ensures in
    (o.0, p.0, column-reads a.form a.update.now _ c.if-form-eq1.false _ (opened-as _ _ _ _ o.1 c.in-Some.is) p.1)

pub returns : goal.returns
returns c = let a = c.args in
    let f = c.follow-2.ensures in
    (f.0 ∙ column-explains a.form a.update.now _ c.if-form-eq1.false _ (opened-as _ _ _ _ c.open.ensures.1 c.in-Some.is) a.n, f.1)
