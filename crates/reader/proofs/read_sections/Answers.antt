-- `reader::read_sections` meets its contract: at each turn the blocks in the first n rows, and those still to come, are those that came at first; each way
-- out is one way that these can end.
use Rattle.std.proofs.Common.{List, refl, length, set, ◌+◌, replicate, ap, subst, sym, ◌∙◌, arith}
use Rattle.std.specs.Prelude.{Ok}
use Rattle.block.specs.declared.Block.{Block}
use Rattle.update.specs.Steps.{comes}
use Rattle.update.proofs.Answers.{on-block, on-on, on-done, on-refused, reads-block, reads_on, reads-done, reads-refused}
use Rattle.reader.proofs.Course.{Known, passed, kept, at_first, on-full, on-end, on-refusal, onward-first, onward-passed, onward-kept, stands-full, stands-refused, stands-end}
use Rattle.reader.proofs.read_sections.Goals as goal

pub loop-place-init : goal.loop-place-init
loop-place-init c = (c.requires.0, c.requires.1, at_first _ _ c.args.rows.now _ refl, onward-first _ _)

pub returns-then-rows-n : goal.returns-then-rows-n
returns-then-rows-n c =
    let b = on-block _ _ _ _ _ _ _ _ _ _ c.next.ensures _ _ (c.in-Ok-Block.is ∙ ap Ok c.in-Ok-Block.field-0-is) in
    let s = reads-block _ _ _ _ _ _ _ _ _ _ c.next.ensures _ _ (c.in-Ok-Block.is ∙ ap Ok c.in-Ok-Block.field-0-is) in
    let h = on-full _ _ _ _ _ c.loop-place.invariant.2 c.loop-place.auto.rows _ _ _ b.0 (omega (arith, c.if-rows-n.true, c.loop-place.auto.rows)) in
    (h.0, c.clear.ensures ∙ h.1, stands-full _ _ _ _ c.loop-place.invariant.3 _ _ _ s (omega (arith, c.if-rows-n.true, c.loop-place.auto.rows)) _, c.next.ensures.small)

pub row_in-b-requires : goal.row_in-b-requires
row_in-b-requires c = (on-block _ _ _ _ _ _ _ _ _ _ c.next.ensures _ _ (c.in-Ok-Block.is ∙ ap Ok c.in-Ok-Block.field-0-is)).2

pub loop-place-smaller-in-Ok-Block : goal.loop-place-smaller-in-Ok-Block
loop-place-smaller-in-Ok-Block c = (on-block _ _ _ _ _ _ _ _ _ _ c.next.ensures _ _ (c.in-Ok-Block.is ∙ ap Ok c.in-Ok-Block.field-0-is)).3

pub loop-place-preserved-in-Ok-Block : goal.loop-place-preserved-in-Ok-Block
loop-place-preserved-in-Ok-Block c =
    let b = on-block _ _ _ _ _ _ _ _ _ _ c.next.ensures _ _ (c.in-Ok-Block.is ∙ ap Ok c.in-Ok-Block.field-0-is) in
    let s = reads-block _ _ _ _ _ _ _ _ _ _ c.next.ensures _ _ (c.in-Ok-Block.is ∙ ap Ok c.in-Ok-Block.field-0-is) in
    (c.next.ensures.small, b.1, subst (λ (rs : List Block). Known (length c.args.rows.now) (comes c.args.form c.args.update.now (replicate 64 0) c.args.w.now c.args.first) (c.loop-place.n + 1) rs (comes c.args.form c.args.update.now c.next.new.memory c.next.new.w c.in-Ok-Block.t)) (sym (c.fill.ensures ∙ ap (set c.loop-place.rows c.loop-place.n) c.row_in-b.ensures)) (kept (length c.args.rows.now) (comes c.args.form c.args.update.now (replicate 64 0) c.args.w.now c.args.first) _ _ _ c.loop-place.invariant.2 c.loop-place.auto.rows _ _ _ b.0 (omega (arith, c.if-rows-n.false, c.loop-place.auto.rows))), onward-kept _ _ _ _ c.loop-place.invariant.3 _ _ _ s (omega (arith, c.if-rows-n.false, c.loop-place.auto.rows)))

pub loop-place-smaller : goal.loop-place-smaller
loop-place-smaller c = (on-on _ _ _ _ _ _ _ _ _ _ c.next.ensures _ (c.in-Ok-On.is ∙ ap Ok c.in-Ok-On.field-0-is)).2

pub loop-place-preserved : goal.loop-place-preserved
loop-place-preserved c =
    let o = on-on _ _ _ _ _ _ _ _ _ _ c.next.ensures _ (c.in-Ok-On.is ∙ ap Ok c.in-Ok-On.field-0-is) in
    let s = reads_on _ _ _ _ _ _ _ _ _ _ c.next.ensures _ (c.in-Ok-On.is ∙ ap Ok c.in-Ok-On.field-0-is) in
    (c.next.ensures.small, o.1, passed _ _ _ _ _ c.loop-place.invariant.2 _ o.0, onward-passed _ _ _ _ c.loop-place.invariant.3 _ s)

pub returns-in-Ok-Done : goal.returns-in-Ok-Done
returns-in-Ok-Done c =
    let h = on-end _ _ _ _ _ c.loop-place.invariant.2 c.loop-place.auto.rows _ (on-done _ _ _ _ _ _ _ _ _ _ c.next.ensures _ (c.in-Ok-Done.is ∙ ap Ok c.in-Ok-Done.field-0-is)) in
    (h.0, c.clear-in-Ok-Done.ensures ∙ h.1, stands-end _ _ _ _ c.loop-place.invariant.3 _ _ (reads-done _ _ _ _ _ _ _ _ _ _ c.next.ensures _ (c.in-Ok-Done.is ∙ ap Ok c.in-Ok-Done.field-0-is)), c.next.ensures.small)

pub returns-in-Err : goal.returns-in-Err
returns-in-Err c =
    let h = on-refusal _ _ _ _ _ c.loop-place.invariant.2 c.loop-place.auto.rows _ (on-refused _ _ _ _ _ _ _ _ _ _ c.next.ensures _ c.in-Err.is) in
    (h.0, c.clear-in-Err.ensures ∙ h.1, stands-refused _ _ _ _ c.loop-place.invariant.3 _ (reads-refused _ _ _ _ _ _ _ _ _ _ c.next.ensures _ c.in-Err.is) _, c.next.ensures.small)
