-- `strict::read_over` meets its contract: as `read_update`, and then what the words say is left.
use Rattle.std.proofs.Common.{ℕ, List, length, ap, sym, ◌∙◌}
use lib.Dec.{ltb}
use borrow.Author.Tests.{lt-ltb, le-ltb}
use Rattle.block.specs.declared.Block.{Block}
use Rattle.numbers.specs.declared.Refusal.{Refusal}
use Rattle.table.specs.Rows.{cleared_from}
use Rattle.updates.specs.Promises.{refused, answer, table_of, range_words}
use Rattle.strict.proofs.Laws.{blocks-out, set_out, left_out, done}
use Rattle.strict.proofs.read_over.Goals as goal

abbrev unread : ℕ → Refusal
unread p = record { number = 15; place = p }

pub returns-then-place-update : goal.returns-then-place-update
returns-then-place-update c =
    let e = c.lowest-place.ensures in
    let h = left_out c.args.form c.args.update.now c.args.rows.now c.args.ranges.now c.requires.2 c.in-Ok.blocks c.in-Ok.at (sym c.read_blocks_over.ensures.0 ∙ c.in-Ok.is) _ _
    (sym c.read_delete_set.ensures.0 ∙ c.in-Ok-read_delete_set.is) c.read_blocks_over.new.w c.read_blocks_over.ensures.2 (ap (λ (p : ℕ). ltb p (length c.args.update.now)) (sym e) ∙ lt-ltb _ _ c.if-place-update.true) _ _ c.read_blocks_over.auto.rows c.read_delete_set.auto.words in (
      c.refuse.ensures.0 ∙ ap (λ (p : ℕ). answer (refused (unread p))) e ∙ h.0,
      c.refuse.ensures.1 ∙ ap (λ (p : ℕ). table_of (length c.read_blocks_over.new.rows) (refused (unread p))) e ∙ h.1,
      c.refuse.ensures.2 ∙ ap (λ (p : ℕ). range_words (length c.read_delete_set.new.words) (refused (unread p))) e ∙ h.2,
    )

pub returns-else-place-update : goal.returns-else-place-update
returns-else-place-update c =
    let e = c.lowest-place.ensures in
    let h = done c.args.form c.args.update.now c.args.rows.now c.args.ranges.now c.requires.2 c.in-Ok.blocks c.in-Ok.at (sym c.read_blocks_over.ensures.0 ∙ c.in-Ok.is) _ _
    (sym c.read_delete_set.ensures.0 ∙ c.in-Ok-read_delete_set.is) c.read_blocks_over.new.w c.read_blocks_over.ensures.2 (ap (λ (p : ℕ). ltb p (length c.args.update.now)) (sym e) ∙ le-ltb _ _ c.if-place-update.false) in
    (h.0, c.read_blocks_over.ensures.1 ∙ h.1, c.read_delete_set.ensures.1 ∙ h.2)

pub returns-in-Err-read_delete_set : goal.returns-in-Err-read_delete_set
returns-in-Err-read_delete_set c =
    let size = sym (ap (λ (bs : List Block). length bs) c.read_blocks_over.ensures.1) ∙ c.read_blocks_over.auto.rows in
    let h = set_out c.args.form c.args.update.now c.args.rows.now c.args.ranges.now c.requires.2 c.in-Ok.blocks c.in-Ok.at (sym c.read_blocks_over.ensures.0 ∙ c.in-Ok.is) c.in-Err-read_delete_set.why (sym c.read_delete_set.ensures.0 ∙ c.in-Err-read_delete_set.is) size in
    (c.none.ensures ∙ h.0, c.clear.ensures ∙ ap (cleared_from 0) c.read_blocks_over.ensures.1 ∙ h.1, c.read_delete_set.ensures.1 ∙ h.2)

pub returns-in-Err : goal.returns-in-Err
returns-in-Err c =
    let h = blocks-out c.args.form c.args.update.now c.args.rows.now c.args.ranges.now c.requires.2 c.in-Err.why (sym c.read_blocks_over.ensures.0 ∙ c.in-Err.is) in
    (c.none-in-Err.ensures ∙ h.0, c.read_blocks_over.ensures.1 ∙ h.1, c.clear-in-Err.ensures ∙ h.2)
