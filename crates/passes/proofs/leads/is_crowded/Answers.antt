-- `leads::is_crowded` meets its contract: the word says so.
use mathlib.Core.Path.{refl}
use Rattle.tokens.specs.Desk.{crowded_in}
use Rattle.passes.proofs.leads.is_crowded.Goals as goal

pub returns : goal.returns
unfolding crowded_in
returns c = refl
