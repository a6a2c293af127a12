-- `measure_alone` meets its contract: the row is written nowhere as a plan of its own, and so measured.
use Rattle.std.proofs.Common.{List, ℕ, length, sym, ap, subst, arith}
use Rattle.tokens.specs.Desk.{Room, WroteKeys}
use Rattle.encoder.specs.Passes.{planned_tokens}
use Rattle.encoder.proofs.Alone.{one-plan-length, alone-holds, measured-alone}
use Rattle.encoder.proofs.measure_alone.Goals as goal

pub put_rows-requires : goal.put_rows-requires
put_rows-requires c = let a = c.args in (
  c.requires.0,
  omega (arith, ap length c.plan_one.ensures, one-plan-length a.c),
  subst (λ (p : List ℕ). Room 2 (planned_tokens a.update.now a.rows.now p 1) a.lanes.now) (sym c.plan_one.ensures)
      (alone-holds a.update.now a.rows.now a.c c.requires.1 c.requires.2),
)

pub returns : goal.returns
returns c = let a = c.args in
    measured-alone a.rows.now a.c c.requires.0.tidy c.requires.1
    (subst (λ (p : List ℕ). WroteKeys a.update.now 2 (planned_tokens a.update.now a.rows.now p 1) _ a.lanes.now 0 c.put_rows.new.out c.put_rows.new.lanes c.put_rows.result) c.plan_one.ensures
    c.put_rows.ensures)
