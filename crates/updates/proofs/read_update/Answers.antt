-- `updates::read_update` meets its contract: the ways out are a refusal before reading, one of the blocks, one of the delete set, and done; each is a case of
-- the reading, and leaves the rows and words that this case has (Laws).
use Rattle.std.proofs.Common.{ℕ, List, length, ap, sym, ◌∙◌}
use lib.Dec.{eqb}
use borrow.Author.Tests.{eq-eqb, ne_eqb}
use Rattle.block.specs.declared.Block.{Block}
use Rattle.table.specs.Rows.{cleared_from}
use Rattle.updates.specs.Promises.{refused, answer}
use Rattle.updates.proofs.Laws.{on-early, on-blocks, on-set, on-ranges}
use Rattle.updates.proofs.read_update.Goals as goal

pub returns-then-early-ne0 : goal.returns-then-early-ne0
returns-then-early-ne0 c =
    let e = c.refused_early-early.ensures in
    let h = on-early c.args.form c.args.update.now c.args.rows.now c.args.ranges.now (ap (λ (k : ℕ). eqb k 0) (sym e) ∙ ne_eqb _ 0 c.if-early-ne0.true) in
    (c.none.ensures ∙ ap (λ (k : ℕ). answer (refused (record { number = k; place = 0 }))) e ∙ h.0, c.clear.ensures ∙ h.1, c.clear-then-early-ne0.ensures ∙ h.2)

pub returns-in-Ok-read_delete_set : goal.returns-in-Ok-read_delete_set
returns-in-Ok-read_delete_set c =
    let y = ap (λ (k : ℕ). eqb k 0) (sym c.refused_early-early.ensures) ∙ eq-eqb _ 0 c.if-early-ne0.false in
    let h = on-ranges c.args.form c.args.update.now c.args.rows.now c.args.ranges.now y c.in-Ok.blocks c.in-Ok.at (sym c.read_blocks.ensures.0 ∙ c.in-Ok.is) _ _ (sym c.read_delete_set.ensures.0 ∙ c.in-Ok-read_delete_set.is) in
    (h.0, c.read_blocks.ensures.1 ∙ h.1, c.read_delete_set.ensures.1 ∙ h.2)

pub returns-in-Err-read_delete_set : goal.returns-in-Err-read_delete_set
returns-in-Err-read_delete_set c =
    let y = ap (λ (k : ℕ). eqb k 0) (sym c.refused_early-early.ensures) ∙ eq-eqb _ 0 c.if-early-ne0.false in
    let size = sym (ap (λ (bs : List Block). length bs) c.read_blocks.ensures.1) ∙ c.read_blocks.auto.rows in
    let h = on-set c.args.form c.args.update.now c.args.rows.now c.args.ranges.now y c.in-Ok.blocks c.in-Ok.at (sym c.read_blocks.ensures.0 ∙ c.in-Ok.is) c.in-Err-read_delete_set.why (sym c.read_delete_set.ensures.0 ∙ c.in-Err-read_delete_set.is) size in
    (c.none-in-Err-read_delete_set.ensures ∙ h.0, c.clear-in-Err-read_delete_set.ensures ∙ ap (cleared_from 0) c.read_blocks.ensures.1 ∙ h.1, c.read_delete_set.ensures.1 ∙ h.2)

pub returns-in-Err : goal.returns-in-Err
returns-in-Err c =
    let y = ap (λ (k : ℕ). eqb k 0) (sym c.refused_early-early.ensures) ∙ eq-eqb _ 0 c.if-early-ne0.false in
    let h = on-blocks c.args.form c.args.update.now c.args.rows.now c.args.ranges.now y c.in-Err.why (sym c.read_blocks.ensures.0 ∙ c.in-Err.is) in
    (c.none-in-Err.ensures ∙ h.0, c.read_blocks.ensures.1 ∙ h.1, c.clear-in-Err.ensures ∙ h.2)
