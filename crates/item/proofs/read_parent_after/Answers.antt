-- `item::read_parent_after` meets its contract: 1 is a name, all else an id.
use mathlib.Core.Path.{sym, ap, ◌∙◌}
use lib.ListN.{set}
use borrow.Author.Tests.{eq-eqb, ne_eqb}
use Rattle.block.specs.Rows.{with_parent, with_name}
use Rattle.grammar.specs.Grammar.{left_clock, done}
use Rattle.grammar.specs.Blocks.{an_id, parent_after}
use Rattle.fields.specs.Fields.{clock_at, text_given}
use Rattle.item.specs.Row.{row_in, onto, id_onto}
use Rattle.item.proofs.Rows.{name-put, parent-put}
use Rattle.held.proofs.Laws.{row_done, text-then, text-stopped}
use Rattle.item.proofs.Laws.{id-then, id-stopped}
use Rattle.item.proofs.read_parent_after.Goals as goal

pub returns-in_err-read_text : goal.returns-in_err-read_text
unfolding parent_after onto
returns-in_err-read_text c = rw c.from_residual.ensures (let b = c in
    let form = b.args.form in
    let u = b.args.update.now in
    let w = b.args.w.now in
    let r = b.args.r.now in
    let v = c.read_text.new.w in
    let q = c.read_text.new.r in
    let k = c.read_text.ensures in
    (k.0, (name-put r q b.requires.1 k.1).0, rw (eq-eqb b.args.v 1 c.if-v-eq1.true) (text-stopped form u w v 14 q _ (ap (text_given 14 v q) (sym c.in_err-read_text.was) ∙ k.2))))

pub returns-then-v-eq1 : goal.returns-then-v-eq1
unfolding parent_after
returns-then-v-eq1 c = let b = c in
    let form = b.args.form in
    let u = b.args.update.now in
    let w = b.args.w.now in
    let r = b.args.r.now in
    let v = c.read_text.new.w in
    let q = c.read_text.new.r in
    let k = c.read_text.ensures in
    let p = name-put r q b.requires.1 k.1 in (
      k.0,
      p.1,
      rw (eq-eqb b.args.v 1 c.if-v-eq1.true)
          (row_done form u v (set q 13 1) _ p.2 ∙ text-then form u w v 14 q (λ a. done (with_name a.0 (row_in r))) _ (ap (text_given 14 v q) (sym c.in_ok-read_text.was) ∙ k.2)),
    )

pub returns-in_err-read_id : goal.returns-in_err-read_id
unfolding parent_after clock_at onto
returns-in_err-read_id c = rw c.from_residual-in_err-read_id.ensures (let b = c in
    let form = b.args.form in
    let u = b.args.update.now in
    let w = b.args.w.now in
    let r = b.args.r.now in
    let v = c.read_id.new.w in
    let q = c.read_id.new.r in
    let k = c.read_id.ensures in
    let p = parent-put r q b.requires.1 k.1 k.2 in (
      k.0,
      p.0,
      rw (ne_eqb b.args.v 1 c.if-v-eq1.false) (id-stopped form u w v 11 q (an_id left_clock) _ (ap (id_onto 11 v q) (sym c.in_err-read_id.was) ∙ k.3)),
    ))

pub returns : goal.returns
unfolding parent_after clock_at
returns c = let b = c in
    let form = b.args.form in
    let u = b.args.update.now in
    let w = b.args.w.now in
    let r = b.args.r.now in
    let v = c.read_id.new.w in
    let q = c.read_id.new.r in
    let k = c.read_id.ensures in
    let p = parent-put r q b.requires.1 k.1 k.2 in (
      k.0,
      p.1,
      rw (ne_eqb b.args.v 1 c.if-v-eq1.false)
          (row_done form u v (set q 10 1) _ p.2 ∙ id-then form u w v 11 q (an_id left_clock) (λ id. done (with_parent id (row_in r))) (ap (id_onto 11 v q) (sym c.in_ok-read_id.was) ∙ k.3)),
    )
