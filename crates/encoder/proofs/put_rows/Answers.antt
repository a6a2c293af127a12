-- `put_rows` meets its contract: at each turn the rows that are written, and those before the cursor, are those that the plan names.
use Rattle.std.proofs.Common.{◌<◌, length, sym, subst, arith}
use Rattle.block.specs.declared.Block.{Block}
use Rattle.tokens.specs.Desk.{Room, WroteKeys}
use Rattle.kept.specs.declared.cursor.Cursor.{Cursor}
use Rattle.kept.specs.Plan.{rest_of}
use Rattle.records.specs.Stops.{row_tokens}
use Rattle.encoder.proofs.Cursors.{stops_at, fewer}
use Rattle.encoder.proofs.Rows.{Going, begins, holds, turns, written}
use Rattle.encoder.proofs.put_rows.Goals as goal

pub loop-c-init : goal.loop-c-init
loop-c-init c = let a = c.args in
    subst (λ (x : Cursor). Going a.form a.out.now a.lanes.now a.at a.update.now a.rows.now a.plan.now a.sections x a.out.now a.lanes.now a.at) (sym c.open-c.ensures)
    (begins a.form a.out.now a.lanes.now a.at a.update.now a.rows.now a.plan.now a.sections (omega arith) c.requires.1 c.requires.0.tidy)

pub write_row-end-requires : goal.write_row-end-requires
write_row-end-requires c = let a = c.args in (
  c.loop-c.invariant.wrote.aliased c.requires.0,
  subst (λ (b : Block). Room a.form (row_tokens a.update.now c.loop-c.c.head (rest_of b c.loop-c.c.from.0 c.loop-c.c.skip.0) b) c.loop-c.lanes) (sym c.fetch-b.ensures)
      (holds a.form a.out.now a.lanes.now a.at a.update.now a.rows.now a.plan.now a.sections (omega arith) c.requires.1
      c.loop-c.c c.loop-c.out c.loop-c.lanes c.loop-c.end c.loop-c.invariant c.loop-c-test.true c.loop-c.auto.lanes c.requires.2),
)

pub loop-c-smaller : goal.loop-c-smaller
loop-c-smaller c = let a = c.args in
    subst (λ (x : Cursor). length (stops_at a.rows.now a.plan.now a.sections x) < length (stops_at a.rows.now a.plan.now a.sections c.loop-c.c)) (sym c.advance-c.ensures)
    (fewer a.rows.now a.plan.now a.sections c.loop-c.c c.requires.1 (omega arith))

pub loop-c-preserved : goal.loop-c-preserved
loop-c-preserved c = let a = c.args in
    subst (λ (x : Cursor). Going a.form a.out.now a.lanes.now a.at a.update.now a.rows.now a.plan.now a.sections x c.write_row-end.new.out c.write_row-end.new.lanes c.write_row-end.result) (sym c.advance-c.ensures)
    (turns a.form a.out.now a.lanes.now a.at a.update.now a.rows.now a.plan.now a.sections (omega arith) c.requires.1
    c.loop-c.c c.loop-c.out c.loop-c.lanes c.loop-c.end c.loop-c.invariant c.loop-c-test.true c.write_row-end.new.out c.write_row-end.new.lanes c.write_row-end.result
    (subst (λ (b : Block). WroteKeys a.update.now a.form (row_tokens a.update.now c.loop-c.c.head (rest_of b c.loop-c.c.from.0 c.loop-c.c.skip.0) b) c.loop-c.out c.loop-c.lanes c.loop-c.end c.write_row-end.new.out c.write_row-end.new.lanes c.write_row-end.result)
    c.fetch-b.ensures c.write_row-end.ensures))

pub returns : goal.returns
returns c = let a = c.args in
    written a.form a.out.now a.lanes.now a.at a.update.now a.rows.now a.plan.now a.sections (omega arith) c.requires.1
    c.loop-c.c c.loop-c.out c.loop-c.lanes c.loop-c.end c.loop-c.invariant c.loop-c-test.false
