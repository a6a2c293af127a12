-- `plan_rows`: what is planned and the rows that are still to be seen make up the plan.
use Rattle.kept.specs.Plan.{entries_of}
use Rattle.encoder.proofs.Plans.{Seen}
use Rattle.encoder.proofs.plan_rows.Given as goal

abbrev pub invariant-loop-i : goal.invariant-loop-i
invariant-loop-i l = Seen l.update (entries_of l.m l.clients l.clocks) l.initial.plan l.rows l.n l.s l.i l.plan
