-- `write_owner` meets its contract: two numbers, or none.
use Prim.Native.Nat.{◌+◌, ◌-◌}
use mathlib.Core.Path.{sym, ◌∙◌}
use Rattle.ranges.specs.TableInner.{row}
use Rattle.records.specs.DeleteRows.{siblings}
use Rattle.records.proofs.Lines.{line-none, line-var, line-then, line-is}
use Rattle.records.proofs.Deletes.{owner-none, owner-some}
use Rattle.records.proofs.delete_set.write_owner.Goals as goal

pub returns-then-not-is_first : goal.returns-then-not-is_first
returns-then-not-is_first c = let p1 = c in
    let p4 = c in
    let a = p4.args in
    line-is (owner-none a.ranges.now a.i (a.n - (a.i + 1)) (sym p1.is_first.ensures ∙ c.if-not-is_first.true)) line-none

pub returns : goal.returns
returns c = let p2 = c in
    let p6 = c in
    let p8 = c in
    let p9 = c in
    let p10 = c in
    let p11 = c in
    let p14 = c in
    let a = p14.args in
    line-is (owner-some a.ranges.now a.i (a.n - (a.i + 1)) (sym p11.is_first.ensures ∙ p10.if-not-is_first.false))
    (line-then (line-var (row a.ranges.now a.i).client (rw p9.client_at-client.ensures at p6.number-named.ensures))
    (line-var (siblings a.ranges.now a.i (a.n - (a.i + 1))) (rw p8.count_ranges-count.ensures at p2.number.ensures)))
