-- `nearby::chain_rows`: what is left to link makes the chain of the span, all of whose rows are there.
use Rattle.nearby.proofs.Ways.{Linking}
use Rattle.nearby.proofs.chain_rows.Given as goal

abbrev pub invariant-loop-i : goal.invariant-loop-i
invariant-loop-i l = Linking l.initial.rows l.fn.s l.chain l.i
