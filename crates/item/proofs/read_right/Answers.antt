-- `item::read_right` meets its contract: its bit decides, and the first refusal is the item's.
use mathlib.Core.Path.{refl, sym, ap, ◌∙◌}
use Prim.Native.Nat.{◌%◌}
use lib.ListN.{set}
use borrow.Author.Tests.{lt-ltb, le-ltb}
use Rattle.block.specs.Rows.{with_right}
use Rattle.grammar.specs.Grammar.{right_clock, done}
use Rattle.grammar.specs.Blocks.{an_id, right}
use Rattle.fields.specs.Fields.{clock_at}
use Rattle.item.specs.Row.{row_in, onto, id_onto}
use Rattle.item.proofs.Rows.{right-put}
use Rattle.held.proofs.Laws.{row_done}
use Rattle.item.proofs.Laws.{id-then, id-stopped}
use Rattle.item.proofs.read_right.Goals as goal

pub returns-then-info-lt64 : goal.returns-then-info-lt64
unfolding right
returns-then-info-lt64 c = let b = c in
    let form = b.args.form in
    let u = b.args.update.now in
    let w = b.args.w.now in
    let r = b.args.r.now in
    (b.requires.0, b.requires.1, rw (lt-ltb (b.args.info % 128) 64 c.if-info-lt64.true) (row_done form u w r (row_in r) refl))

pub returns-in_err-read_id : goal.returns-in_err-read_id
unfolding right clock_at onto
returns-in_err-read_id c = rw c.from_residual.ensures (let b = c in
    let form = b.args.form in
    let u = b.args.update.now in
    let w = b.args.w.now in
    let r = b.args.r.now in
    let v = c.read_id.new.w in
    let q = c.read_id.new.r in
    let k = c.read_id.ensures in
    let p = right-put r q b.requires.1 k.1 k.2 in (
      k.0,
      p.0,
      rw (le-ltb (b.args.info % 128) 64 c.if-info-lt64.false) (id-stopped form u w v 8 q (an_id right_clock) _ (ap (id_onto 8 v q) (sym c.in_err-read_id.was) ∙ k.3)),
    ))

pub returns : goal.returns
unfolding right clock_at
returns c = let b = c in
    let form = b.args.form in
    let u = b.args.update.now in
    let w = b.args.w.now in
    let r = b.args.r.now in
    let v = c.read_id.new.w in
    let q = c.read_id.new.r in
    let k = c.read_id.ensures in
    let p = right-put r q b.requires.1 k.1 k.2 in (
      k.0,
      p.1,
      rw (le-ltb (b.args.info % 128) 64 c.if-info-lt64.false)
          (row_done form u v (set q 7 1) _ p.2
          ∙ id-then form u w v 8 q (an_id right_clock) (λ id. done (with_right id (row_in r))) (ap (id_onto 8 v q) (sym c.in_ok-read_id.was) ∙ k.3)),
    )
