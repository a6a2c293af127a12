-- `leads::open` meets its contract: the lanes that are noted, and those that are still to begin, are all lanes at their beginnings.
use mathlib.Core.Path.{◌≡◌}
use lib.ListN.{length}
use Rattle.passes.proofs.Places.{Opening}
use Rattle.passes.proofs.leads.open.Given as goal

abbrev pub invariant-loop-k : goal.invariant-loop-k
invariant-loop-k l = Opening l.initial.out l.sizes l.out l.lanes l.at l.k × (length l.out ≡ length l.initial.out) × (length l.lanes ≡ length l.initial.lanes)
