-- `vector::refuse` meets its contract: all is cleared.
use mathlib.Core.Path.{refl, ◌∙◌}
use Rattle.numbers.proofs.Output.{padded-none}
use Rattle.vector.proofs.refuse.Goals as goal

pub returns : goal.returns
returns c = (refl, c.clear.ensures ∙ padded-none c.args.out.now)
