-- `measure_rows` meets its contract: at each turn the rows that are measured, and those before the cursor, are those that the plan names.
use Rattle.std.proofs.Common.{◌<◌, length, sym, subst, arith}
use Rattle.kept.specs.declared.cursor.Cursor.{Cursor}
use Rattle.tokens.proofs.Sized.{sized-aliased}
use Rattle.encoder.proofs.Alone.{Measuring, measure-begins, measure-holds, measure-turns, all-measured}
use Rattle.encoder.proofs.Cursors.{stops_at, fewer}
use Rattle.encoder.proofs.measure_rows.Goals as goal

pub loop-c-init : goal.loop-c-init
loop-c-init c = let a = c.args in
    subst (λ (x : Cursor). Measuring a.lanes.now a.update.now a.rows.now a.plan.now a.sections x a.lanes.now) (sym c.open-c.ensures)
    (measure-begins a.lanes.now a.update.now a.rows.now a.plan.now a.sections (omega arith) c.requires.1 c.requires.0.tidy)

pub measure_row-requires : goal.measure_row-requires
measure_row-requires c = let a = c.args in (
  sized-aliased c.requires.0 c.loop-c.invariant.sized,
  c.loop-c-test.true,
  measure-holds a.lanes.now a.update.now a.rows.now a.plan.now a.sections (omega arith) c.requires.1 c.loop-c.c c.loop-c.lanes c.loop-c.invariant c.loop-c-test.true c.loop-c.auto.lanes c.requires.2,
)

pub loop-c-smaller : goal.loop-c-smaller
loop-c-smaller c = let a = c.args in
    subst (λ (x : Cursor). length (stops_at a.rows.now a.plan.now a.sections x) < length (stops_at a.rows.now a.plan.now a.sections c.loop-c.c)) (sym c.advance-c.ensures)
    (fewer a.rows.now a.plan.now a.sections c.loop-c.c c.requires.1 (omega arith))

pub loop-c-preserved : goal.loop-c-preserved
loop-c-preserved c = let a = c.args in
    subst (λ (x : Cursor). Measuring a.lanes.now a.update.now a.rows.now a.plan.now a.sections x c.measure_row.new.lanes) (sym c.advance-c.ensures)
    (measure-turns a.lanes.now a.update.now a.rows.now a.plan.now a.sections (omega arith) c.requires.1 c.loop-c.c c.loop-c.lanes c.loop-c.invariant c.loop-c-test.true c.measure_row.new.lanes c.measure_row.ensures)

pub returns : goal.returns
returns c = let a = c.args in
    all-measured a.lanes.now a.update.now a.rows.now a.plan.now a.sections (omega arith) c.requires.1 c.loop-c.c c.loop-c.lanes c.loop-c.invariant c.loop-c-test.false
