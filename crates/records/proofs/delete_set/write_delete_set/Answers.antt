-- `write_delete_set` meets its contract: at each turn the rows so far are written.
use mathlib.Core.Path.{◌≡◌, refl}
use native.Mathlib.Omega.{arith}
use lib.ListN.{length}
use Rattle.ranges.specs.TableInner.{rows_from}
use Rattle.readings.specs.Groups.{groups}
use Rattle.records.specs.Records.{owner_of}
use Rattle.records.proofs.Lines.{line-none, line-var, line-then, line-is}
use Rattle.records.proofs.Deletes.{far_none, far-next, deletes-are}
use borrow.Author.Rules.{rules}
use Rattle.records.proofs.delete_set.write_delete_set.Goals as goal

pub loop-i-init : goal.loop-i-init
loop-i-init c = let a = c.args in
    (line-is (far_none a.form a.ranges.now a.n) line-none, refl)

pub loop-i-preserved : goal.loop-i-preserved
loop-i-preserved c = let a = c.args in
    (line-is (far-next a.form a.ranges.now a.n c.loop-i.i) (line-then c.loop-i.invariant.0 c.write_range-end.ensures), search rules)

pub returns : goal.returns
returns c = let a = c.args in
    let end : c.loop-i.i ≡ a.n = omega arith in
    line-is (deletes-are a.form a.ranges.now a.n)
    (line-then (line-var (length (groups owner_of (rows_from a.ranges.now 0 a.n))) (rw c.count_clients-clients.ensures at c.number-end.ensures))
    (rw end at c.loop-i.invariant.0))
