-- `leads::note` meets its contract: the first k sizes are the first k lanes' places.
use Rattle.passes.proofs.Places.{Noted}
use Rattle.passes.proofs.leads.note.Given as goal

abbrev pub invariant-loop-k : goal.invariant-loop-k
invariant-loop-k l = Noted l.lanes l.sizes l.far l.k
