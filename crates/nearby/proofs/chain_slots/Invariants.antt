-- `nearby::chain_slots`: with the chains of the slots that are left all is filled that is to be.
use Rattle.nearby.proofs.Ways.{Filling}
use Rattle.nearby.proofs.chain_slots.Given as goal

abbrev pub invariant-loop-p : goal.invariant-loop-p
invariant-loop-p l = Filling l.initial.rows l.initial.slots l.initial.n l.initial.chains l.chains l.p
