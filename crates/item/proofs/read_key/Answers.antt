-- `item::read_key` meets its contract: its bit decides, and the first refusal is the item's.
use mathlib.Core.Path.{refl, sym, ap, ◌∙◌}
use lib.ListN.{set}
use borrow.Author.Tests.{lt-ltb, le-ltb}
use Rattle.block.specs.Rows.{with_key}
use Rattle.grammar.specs.Grammar.{done}
use Rattle.grammar.specs.Blocks.{key}
use Rattle.fields.specs.Fields.{text_given}
use Rattle.item.specs.Row.{row_in, onto}
use Rattle.item.proofs.Rows.{key-put}
use Rattle.held.proofs.Laws.{row_done, text-then, text-stopped}
use Rattle.item.proofs.read_key.Goals as goal

pub returns-then-info-lt32 : goal.returns-then-info-lt32
unfolding key
returns-then-info-lt32 c = let b = c in
    let form = b.args.form in
    let u = b.args.update.now in
    let w = b.args.w.now in
    let r = b.args.r.now in
    (b.requires.0, b.requires.1, rw (lt-ltb b.args.info 32 c.if-info-lt32.true) (row_done form u w r (row_in r) refl))

pub returns-in_err-read_text : goal.returns-in_err-read_text
unfolding key onto
returns-in_err-read_text c = rw c.from_residual.ensures (let b = c in
    let form = b.args.form in
    let u = b.args.update.now in
    let w = b.args.w.now in
    let r = b.args.r.now in
    let v = c.read_text.new.w in
    let q = c.read_text.new.r in
    let k = c.read_text.ensures in
    (k.0, (key-put r q b.requires.1 k.1).0, rw (le-ltb b.args.info 32 c.if-info-lt32.false) (text-stopped form u w v 17 q _ (ap (text_given 17 v q) (sym c.in_err-read_text.was) ∙ k.2))))

pub returns : goal.returns
unfolding key
returns c = let b = c in
    let form = b.args.form in
    let u = b.args.update.now in
    let w = b.args.w.now in
    let r = b.args.r.now in
    let v = c.read_text.new.w in
    let q = c.read_text.new.r in
    let k = c.read_text.ensures in
    let p = key-put r q b.requires.1 k.1 in (
      k.0,
      p.1,
      rw (le-ltb b.args.info 32 c.if-info-lt32.false)
          (row_done form u v (set q 16 1) _ p.2 ∙ text-then form u w v 17 q (λ a. done (with_key a.0 (row_in r))) _ (ap (text_given 17 v q) (sym c.in_ok-read_text.was) ∙ k.2)),
    )
