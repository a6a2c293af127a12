-- `write_parent` meets its contract: by a name, or by an id.
use Rattle.tokens.proofs.Wrote.{wrote_then, wrote-is}
use Rattle.records.proofs.Writes.{parent-named, parent-by-id}
use Rattle.records.proofs.write_parent.Goals as goal

pub returns-then-b : goal.returns-then-b
returns-then-b c = let p4 = c in
    let p12 = c in
    let p15 = c in
    let p19 = c in
    let a = p19.args in
    wrote-is (parent-named a.update.now a.b p15.if-b.true) (wrote_then p12.write_parent_info-named.ensures p4.write_name.ensures)

pub returns : goal.returns
returns c = let p4 = c in
    let p12 = c in
    let p19 = c in
    let p22 = c in
    let p26 = c in
    let a = p26.args in
    wrote-is (parent-by-id a.update.now a.b p22.if-b.false)
    (wrote_then p19.write_parent_info-begun.ensures (wrote_then p12.write_client-mid.ensures p4.write_left_clock.ensures))
