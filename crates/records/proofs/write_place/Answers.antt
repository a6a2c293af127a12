-- `write_place` meets its contract: ids beside it, or a parent.
use mathlib.Core.Path.{sym, ◌∙◌}
use Rattle.tokens.proofs.Wrote.{wrote_then, wrote-is}
use Rattle.records.proofs.Writes.{place-beside, place_inside}
use Rattle.records.proofs.write_place.Goals as goal

pub returns-then-is_linked : goal.returns-then-is_linked
returns-then-is_linked c = let p4 = c in
    let p11 = c in
    let p14 = c in
    let p15 = c in
    let p19 = c in
    let a = p19.args in
    wrote-is (place-beside a.update.now a.b (sym p15.is_linked.ensures ∙ p14.if-is_linked.true))
    (wrote_then p11.write_left-mid.ensures p4.write_right.ensures)

pub returns : goal.returns
returns c = let p4 = c in
    let p11 = c in
    let p14 = c in
    let p15 = c in
    let p19 = c in
    let a = p19.args in
    wrote-is (place_inside a.update.now a.b (sym p15.is_linked.ensures ∙ p14.if-is_linked.false))
    (wrote_then p11.write_parent-mid.ensures p4.write_key.ensures)
