-- `write_range` meets its contract: as it is, or less what came before.
use Prim.Native.Nat.{◌+◌, ◌-◌}
use Rattle.ranges.specs.TableInner.{row}
use Rattle.records.specs.DeleteRows.{end_before}
use Rattle.records.proofs.Lines.{line-var, line-then, line-is}
use Rattle.records.proofs.Deletes.{range-line, range-less}
use Rattle.records.proofs.delete_set.write_range.Goals as goal

pub returns-then-form-eq1 : goal.returns-then-form-eq1
returns-then-form-eq1 c = let p2 = c in
    let p6 = c in
    let p8 = c in
    let p9 = c in
    let p12 = c in
    let p14 = c in
    let p17 = c in
    let a = p17.args in
    let r = row a.ranges.now a.i in
    line-is (range-line a.ranges.now a.i (a.n - (a.i + 1)) a.form p9.if-form-eq1.true)
    (line-then p12.write_owner-owned.ensures
    (line-then (line-var r.clock (rw p8.clock_at-clock.ensures at p6.number-begun.ensures))
    (line-var r.len (rw p14.length_at-len.ensures at p2.number.ensures))))

pub returns : goal.returns
returns c = let p2 = c in
    let p3 = c in
    let p7 = c in
    let p9 = c in
    let p10 = c in
    let p13 = c in
    let p15 = c in
    let p18 = c in
    let a = p18.args in
    let r = row a.ranges.now a.i in
    line-is (range-less a.ranges.now a.i (a.n - (a.i + 1)) a.form p10.if-form-eq1.false)
    (line-then p13.write_owner-owned.ensures
    (line-then (line-var (r.clock - end_before a.ranges.now a.i) (rw p9.increase-clock.ensures at p7.number-begun-2.ensures))
    (line-var (r.len - 1) (rw (p3.saturating_sub.ensures, p15.length_at-len.ensures) at p2.number-2.ensures))))
