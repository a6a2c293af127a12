-- `is_plain`: if there are no keys before the cursor, there are none at all.
use Rattle.encoder.proofs.Keyless.{Seen}
use Rattle.encoder.proofs.is_plain.Given as goal

abbrev pub invariant-loop : goal.invariant-loop
invariant-loop l = Seen l.rows l.plan l.sections l.c
