-- `write` meets its contract: the lanes opened, the sections counted, the planned rows put, the lanes closed, and the ranges behind them.
use Rattle.std.proofs.Common.{List, ℕ, subst}
use Rattle.numbers.specs.Number.{unsigned}
use Rattle.ranges.specs.TableInner.{rows_from}
use Rattle.tokens.specs.Desk.{WroteKeys}
use Rattle.tokens.specs.Lanes.{ahead}
use Rattle.records.specs.Records.{delete_tokens}
use Rattle.encoder.specs.Passes.{planned_tokens}
use Rattle.passes.proofs.Exits.{written}
use Rattle.passes.proofs.write.Goals as goal

pub returns : goal.returns
returns c = let a = c.args in
    let ts = planned_tokens a.update.now a.rows.now a.plan.now a.sections in
    let o = c.open-at.new in
    written a.update.now a.form a.sizes.now a.out.now a.sections ts (delete_tokens a.form (rows_from a.ranges.now 0 a.n)) o.out o.lanes c.open-at.result c.open-at.ensures
    c.put_rows-end.new.out c.put_rows-end.new.lanes c.put_rows-end.result
    (subst (λ (out : List ℕ). WroteKeys a.update.now a.form ts out o.lanes (ahead c.open-at.result (unsigned a.sections)) c.put_rows-end.new.out c.put_rows-end.new.lanes c.put_rows-end.result) c.number-counted.ensures.1
    (subst (λ (at : ℕ). WroteKeys a.update.now a.form ts c.number-counted.new.out o.lanes at c.put_rows-end.new.out c.put_rows-end.new.lanes c.put_rows-end.result) c.number-counted.ensures.0
    c.put_rows-end.ensures))
    c.close.ensures c.write_delete_set.ensures
