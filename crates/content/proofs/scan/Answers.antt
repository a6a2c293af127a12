-- `content::scan` meets its contract: each answer of a step is a law of the walk down the blocks.
use Rattle.std.specs.Prelude.{Ok}
use Rattle.std.proofs.lemmas.Result.{err_from_is_err_and}
use mathlib.Core.Path.{refl, ap, ◌∙◌}
use Rattle.content.proofs.Seek.{narrow, take-this, take-later, have-it, goes_on, block-less, on-less, at_done, at-refused}
use Rattle.content.proofs.scan.Goals as goal

pub loop-t-init : goal.loop-t-init
loop-t-init c = (record { same = rw c.none-row.ensures refl; fine = c.requires.1; small = c.requires.0; memory = refl; fields = refl }, refl)

pub row_in-row-requires : goal.row_in-row-requires
row_in-row-requires c = let a = c.args in
    narrow a.form a.update.now a.n _ c.loop-t.w c.loop-t.fields c.loop-t.memory c.loop-t.s c.loop-t.ahead c.loop-t.found c.loop-t.row c.loop-t.invariant.0 _ _ _ c.next.result c.next.ensures _ _ (c.in_ok-t.was ∙ ap Ok c.in-Block.is)

pub loop-t-smaller-then-ahead-eq0 : goal.loop-t-smaller-then-ahead-eq0
loop-t-smaller-then-ahead-eq0 c = let a = c.args in
    block-less a.form a.update.now a.n _ c.loop-t.w c.loop-t.fields c.loop-t.memory c.loop-t.s c.loop-t.ahead c.loop-t.found c.loop-t.row c.loop-t.invariant.0 _ _ _ c.next.result c.next.ensures _ _ (c.in_ok-t.was ∙ ap Ok c.in-Block.is)

pub loop-t-preserved-then-ahead-eq0 : goal.loop-t-preserved-then-ahead-eq0
loop-t-preserved-then-ahead-eq0 c = let a = c.args in
    (rw c.row_in-row.ensures (take-this a.form a.update.now a.n _ c.loop-t.w c.loop-t.fields c.loop-t.memory c.loop-t.s c.loop-t.ahead c.loop-t.found c.loop-t.row c.loop-t.invariant.0 _ _ _ c.next.result c.next.ensures _ _ (c.in_ok-t.was ∙ ap Ok c.in-Block.is) (c.if-not-found.true) c.if-ahead-eq0.true), c.next.auto.w ∙ c.loop-t.invariant.1)

pub loop-t-smaller-else-ahead-eq0 : goal.loop-t-smaller-else-ahead-eq0
loop-t-smaller-else-ahead-eq0 c = let a = c.args in
    block-less a.form a.update.now a.n _ c.loop-t.w c.loop-t.fields c.loop-t.memory c.loop-t.s c.loop-t.ahead c.loop-t.found c.loop-t.row c.loop-t.invariant.0 _ _ _ c.next.result c.next.ensures _ _ (c.in_ok-t.was ∙ ap Ok c.in-Block.is)

pub loop-t-preserved-else-ahead-eq0 : goal.loop-t-preserved-else-ahead-eq0
loop-t-preserved-else-ahead-eq0 c = let a = c.args in
    (take-later a.form a.update.now a.n _ c.loop-t.w c.loop-t.fields c.loop-t.memory c.loop-t.s c.loop-t.ahead c.loop-t.found c.loop-t.row c.loop-t.invariant.0 _ _ _ c.next.result c.next.ensures _ _ (c.in_ok-t.was ∙ ap Ok c.in-Block.is) (c.if-not-found.true) c.if-ahead-eq0.false, c.next.auto.w ∙ c.loop-t.invariant.1)

pub loop-t-smaller-else-not-found : goal.loop-t-smaller-else-not-found
loop-t-smaller-else-not-found c = let a = c.args in
    block-less a.form a.update.now a.n _ c.loop-t.w c.loop-t.fields c.loop-t.memory c.loop-t.s c.loop-t.ahead c.loop-t.found c.loop-t.row c.loop-t.invariant.0 _ _ _ c.next.result c.next.ensures _ _ (c.in_ok-t.was ∙ ap Ok c.in-Block.is)

pub loop-t-preserved-else-not-found : goal.loop-t-preserved-else-not-found
loop-t-preserved-else-not-found c = let a = c.args in
    (have-it a.form a.update.now a.n _ c.loop-t.w c.loop-t.fields c.loop-t.memory c.loop-t.s c.loop-t.ahead c.loop-t.found c.loop-t.row c.loop-t.invariant.0 _ _ _ c.next.result c.next.ensures _ _ (c.in_ok-t.was ∙ ap Ok c.in-Block.is) (c.if-not-found.false), c.next.auto.w ∙ c.loop-t.invariant.1)

pub loop-t-smaller : goal.loop-t-smaller
loop-t-smaller c = let a = c.args in
    on-less a.form a.update.now a.n _ c.loop-t.w c.loop-t.fields c.loop-t.memory c.loop-t.s c.loop-t.ahead c.loop-t.found c.loop-t.row c.loop-t.invariant.0 _ _ _ c.next.result c.next.ensures _ (c.in_ok-t.was ∙ ap Ok c.in-On.is)

pub loop-t-preserved : goal.loop-t-preserved
loop-t-preserved c = let a = c.args in
    (goes_on a.form a.update.now a.n _ c.loop-t.w c.loop-t.fields c.loop-t.memory c.loop-t.s c.loop-t.ahead c.loop-t.found c.loop-t.row c.loop-t.invariant.0 _ _ _ c.next.result c.next.ensures _ (c.in_ok-t.was ∙ ap Ok c.in-On.is), c.next.auto.w ∙ c.loop-t.invariant.1)

pub returns-in-Done : goal.returns-in-Done
returns-in-Done c = let a = c.args in
    at_done a.form a.update.now a.n _ c.loop-t.w c.loop-t.fields c.loop-t.memory c.loop-t.s c.loop-t.ahead c.loop-t.found c.loop-t.row c.loop-t.invariant.0 _ _ _ c.next.result c.next.ensures _ (c.in_ok-t.was ∙ ap Ok c.in-Done.is)

pub returns-in_err-t : goal.returns-in_err-t
returns-in_err-t c = let a = c.args in
    let p = err_from_is_err_and c.from_residual.result c.from_residual.ensures.1 in
    rw (p.1, p.2) (at-refused a.form a.update.now a.n _ c.loop-t.w c.loop-t.fields c.loop-t.memory c.loop-t.s c.loop-t.ahead c.loop-t.found c.loop-t.row c.loop-t.invariant.0 _ _ _ c.next.result c.next.ensures _ c.in_err-t.was)
