-- `is_first` meets its contract.
use Rattle.records.proofs.Deletes.{first-at-zero, first-after}
use Rattle.records.proofs.delete_set.is_first.Goals as goal

pub returns-then-i-eq0 : goal.returns-then-i-eq0
returns-then-i-eq0 c = first-at-zero c.args.ranges.now c.args.i c.if-i-eq0.true

pub returns : goal.returns
returns c = let p1 = c in
    let p2 = c in
    let p4 = c in
    let a = p4.args in
    first-after a.ranges.now a.i p1.client_at-before.result c.client_at.result p2.if-i-eq0.false p1.client_at-before.ensures c.client_at.ensures
