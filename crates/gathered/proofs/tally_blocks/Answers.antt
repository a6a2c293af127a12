-- `gathered::tally_blocks` meets its contract: each answer of a step is a law of the walk down the blocks.
use Rattle.std.specs.Prelude.{Ok}
use Rattle.std.proofs.lemmas.Result.{err_from_is_err_and}
use mathlib.Core.Path.{refl, ap, ◌∙◌}
use mathlib.Core.List.{[], ◌∷◌}
use native.Mathlib.Omega.{arith}
use Rattle.item.specs.Row.{row_in}
use Rattle.gathered.proofs.Walking.{walk_begins, countable, at-end, block-less, its-end, block-tallied, on-less, goes_on, at_done, done-small, at-refused}
use Rattle.gathered.proofs.tally_blocks.Goals as goal

pub loop-s-init : goal.loop-s-init
loop-s-init c = let a = c.args in
    let h = c.requires in
    (walk_begins a.form a.update.now a.w.now a.r.now (0 ∷ []) a.blocks a.client a.clock h.0 h.1 refl h.2 h.3 h.4, refl)

pub next-requires : goal.next-requires
next-requires c = (c.loop-s.invariant.0.small, c.loop-s.invariant.0.fields, c.loop-s.invariant.0.fine)

pub overflow_add-end : goal.overflow_add-end
unfolding row_in
overflow_add-end c = let a = c.args in
    omega (arith, its-end a.form a.update.now _ a.blocks c.loop-s.w c.loop-s.r c.loop-s.memory c.loop-s.s c.loop-s.first c.loop-s.end c.loop-s.count c.loop-s.invariant.0 _ _ _ c.next.result c.next.ensures _ _ (c.in_ok-t.was ∙ ap Ok c.in-Block.is))

pub overflow_add-count : goal.overflow_add-count
overflow_add-count c = let a = c.args in
    omega (arith, countable a.form a.update.now _ a.blocks c.loop-s.w c.loop-s.r c.loop-s.memory c.loop-s.s c.loop-s.first c.loop-s.end c.loop-s.count c.loop-s.invariant.0)

pub loop-s-smaller-in-Block : goal.loop-s-smaller-in-Block
loop-s-smaller-in-Block c = let a = c.args in
    block-less a.form a.update.now _ a.blocks c.loop-s.w c.loop-s.r c.loop-s.memory c.loop-s.s c.loop-s.first c.loop-s.end c.loop-s.count c.loop-s.invariant.0 _ _ _ c.next.result c.next.ensures _ _ (c.in_ok-t.was ∙ ap Ok c.in-Block.is)

pub loop-s-preserved-in-Block : goal.loop-s-preserved-in-Block
unfolding row_in
loop-s-preserved-in-Block c = let a = c.args in
    (block-tallied a.form a.update.now _ a.blocks c.loop-s.w c.loop-s.r c.loop-s.memory c.loop-s.s c.loop-s.first c.loop-s.end c.loop-s.count c.loop-s.invariant.0 _ _ _ c.next.result c.next.ensures _ _ (c.in_ok-t.was ∙ ap Ok c.in-Block.is) c.earliest-first.result c.earliest-first.ensures, c.next.auto.w ∙ c.loop-s.invariant.1)

pub loop-s-smaller : goal.loop-s-smaller
loop-s-smaller c = let a = c.args in
    on-less a.form a.update.now _ a.blocks c.loop-s.w c.loop-s.r c.loop-s.memory c.loop-s.s c.loop-s.first c.loop-s.end c.loop-s.count c.loop-s.invariant.0 _ _ _ c.next.result c.next.ensures _ (c.in_ok-t.was ∙ ap Ok c.in-On.is)

pub loop-s-preserved : goal.loop-s-preserved
loop-s-preserved c = let a = c.args in
    (goes_on a.form a.update.now _ a.blocks c.loop-s.w c.loop-s.r c.loop-s.memory c.loop-s.s c.loop-s.first c.loop-s.end c.loop-s.count c.loop-s.invariant.0 _ _ _ c.next.result c.next.ensures _ (c.in_ok-t.was ∙ ap Ok c.in-On.is), c.next.auto.w ∙ c.loop-s.invariant.1)

pub returns-in-Done : goal.returns-in-Done
returns-in-Done c = let a = c.args in
    (done-small a.form a.update.now _ a.blocks c.loop-s.w c.loop-s.r c.loop-s.memory c.loop-s.s c.loop-s.first c.loop-s.end c.loop-s.count c.loop-s.invariant.0 _ _ _ c.next.result c.next.ensures _, c.next.ensures.row ∙ c.loop-s.invariant.0.fields, at_done a.form a.update.now _ a.blocks c.loop-s.w c.loop-s.r c.loop-s.memory c.loop-s.s c.loop-s.first c.loop-s.end c.loop-s.count c.loop-s.invariant.0 _ _ _ c.next.result c.next.ensures _ (c.in_ok-t.was ∙ ap Ok c.in-Done.is))

pub returns-in_err-t : goal.returns-in_err-t
returns-in_err-t c = let a = c.args in
    let p = err_from_is_err_and c.from_residual.result c.from_residual.ensures.1 in
    (c.next.ensures.small, c.next.ensures.row ∙ c.loop-s.invariant.0.fields, rw (p.1, p.2) (at-refused a.form a.update.now _ a.blocks c.loop-s.w c.loop-s.r c.loop-s.memory c.loop-s.s c.loop-s.first c.loop-s.end c.loop-s.count c.loop-s.invariant.0 _ _ _ c.next.result c.next.ensures _ c.in_err-t.was))

pub returns : goal.returns
returns c = let a = c.args in
    (c.loop-s.invariant.0.small, c.loop-s.invariant.0.fields, at-end a.form a.update.now _ a.blocks c.loop-s.w c.loop-s.r c.loop-s.memory c.loop-s.s c.loop-s.first c.loop-s.end c.loop-s.count c.loop-s.invariant.0 c.loop-s-test.false)
