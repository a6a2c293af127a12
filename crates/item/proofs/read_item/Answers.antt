-- `item::read_item` meets its contract: a place, then a content.
use mathlib.Core.Path.{sym, ap, ◌∙◌}
use Rattle.grammar.specs.Blocks.{place, content, an_item}
use Rattle.item.specs.Row.{row_in, onto}
use Rattle.held.proofs.Laws.{row-then, row-stopped}
use Rattle.item.proofs.read_item.Goals as goal

pub returns-in_err-read_place : goal.returns-in_err-read_place
unfolding an_item onto
returns-in_err-read_place c = rw c.from_residual.ensures (let b = c in
    let form = b.args.form in
    let u = b.args.update.now in
    let w = b.args.w.now in
    let r = b.args.r.now in
    let v = c.read_place.new.w in
    let q = c.read_place.new.r in
    let k = c.read_place.ensures in
    (k.0, k.1, row-stopped form u w v q (place b.args.info (row_in r)) (content b.args.info b.args.place) (ap (onto v q) (sym c.in_err-read_place.was) ∙ k.2)))

pub returns : goal.returns
unfolding an_item
returns c = let b = c in
    let form = b.args.form in
    let u = b.args.update.now in
    let w = b.args.w.now in
    let r = b.args.r.now in
    let v = c.read_place.new.w in
    let q = c.read_place.new.r in
    let k = c.read_place.ensures in
    let p = c.read_content.ensures in
    (p.0, p.1, p.2 ∙ row-then form u w v q (place b.args.info (row_in r)) (content b.args.info b.args.place) (ap (onto v q) (sym c.in_ok-read_place.was) ∙ k.2))
