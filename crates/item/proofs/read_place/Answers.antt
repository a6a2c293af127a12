-- `item::read_place` meets its contract: below 64 there is neither id.
use mathlib.Core.Path.{sym, ap, ◌∙◌}
use borrow.Author.Tests.{lt-ltb, le-ltb}
use Rattle.grammar.specs.Blocks.{left, right, parent, key, place}
use Rattle.item.specs.Row.{row_in, onto}
use Rattle.held.proofs.Laws.{row-then, row-stopped}
use Rattle.item.proofs.read_place.Goals as goal

pub returns-in_err-read_parent : goal.returns-in_err-read_parent
unfolding place onto
returns-in_err-read_parent c = rw c.from_residual.ensures (let b = c in
    let form = b.args.form in
    let u = b.args.update.now in
    let w = b.args.w.now in
    let r = b.args.r.now in
    let v = c.read_parent.new.w in
    let q = c.read_parent.new.r in
    let k = c.read_parent.ensures in
    (k.0, k.1, rw (lt-ltb b.args.info 64 c.if-info-lt64.true) (row-stopped form u w v q (parent (row_in r)) (key b.args.info) (ap (onto v q) (sym c.in_err-read_parent.was) ∙ k.2))))

pub returns-then-info-lt64 : goal.returns-then-info-lt64
unfolding place
returns-then-info-lt64 c = let b = c in
    let form = b.args.form in
    let u = b.args.update.now in
    let w = b.args.w.now in
    let r = b.args.r.now in
    let v = c.read_parent.new.w in
    let q = c.read_parent.new.r in
    let k = c.read_parent.ensures in
    let p = c.read_key.ensures in (
      p.0,
      p.1,
      rw (lt-ltb b.args.info 64 c.if-info-lt64.true)
          (p.2 ∙ row-then form u w v q (parent (row_in r)) (key b.args.info) (ap (onto v q) (sym c.in_ok-read_parent.was) ∙ k.2)),
    )

pub returns-in_err-read_left : goal.returns-in_err-read_left
unfolding place onto
returns-in_err-read_left c = rw c.from_residual-in_err-read_left.ensures (let b = c in
    let form = b.args.form in
    let u = b.args.update.now in
    let w = b.args.w.now in
    let r = b.args.r.now in
    let v = c.read_left.new.w in
    let q = c.read_left.new.r in
    let k = c.read_left.ensures in
    (k.0, k.1, rw (le-ltb b.args.info 64 c.if-info-lt64.false) (row-stopped form u w v q (left b.args.info (row_in r)) (right b.args.info) (ap (onto v q) (sym c.in_err-read_left.was) ∙ k.2))))

pub returns : goal.returns
unfolding place
returns c = let b = c in
    let form = b.args.form in
    let u = b.args.update.now in
    let w = b.args.w.now in
    let r = b.args.r.now in
    let v = c.read_left.new.w in
    let q = c.read_left.new.r in
    let k = c.read_left.ensures in
    let p = c.read_right.ensures in (
      p.0,
      p.1,
      rw (le-ltb b.args.info 64 c.if-info-lt64.false)
          (p.2 ∙ row-then form u w v q (left b.args.info (row_in r)) (right b.args.info) (ap (onto v q) (sym c.in_ok-read_left.was) ∙ k.2)),
    )
