-- `summary::put_rows` meets its contract: whatever the rows left make of the bytes here, all rows make of the bytes as they were.
use Rattle.std.proofs.Common.{◌∙◌, arith, ◌+◌, ◌-◌, ◌*◌, drop}
use Rattle.summary.proofs.Laws.{rows-added-at, rows_none, nothing-added}
use Rattle.summary.proofs.put_rows.Goals as goal

pub loop-i-preserved : goal.loop-i-preserved
loop-i-preserved c = let a = c.args in (
  λ t h. c.loop-i.invariant.0 t (rows-added-at c.loop-i.i a.n a.rows.now c.loop-i.out c.put_row.new.out t c.loop-i-test.true c.put_row.ensures h),
  c.put_row.ensures.size ∙ c.loop-i.invariant.1,
)

pub returns : goal.returns
returns c = let a = c.args in
    c.loop-i.invariant.0 c.loop-i.out (rw (rows_none (a.n - c.loop-i.i) (drop (4 * c.loop-i.i) a.rows.now) (omega arith)) (nothing-added (11 + 131 * c.loop-i.i) c.loop-i.out))
