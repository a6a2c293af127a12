-- `numbers::refuse` meets its contract: all is cleared.
use mathlib.Core.Path.{refl, ◌∙◌}
use Rattle.numbers.proofs.Output.{padded-none}
use Rattle.numbers.proofs.refuse.Goals as goal

pub returns : goal.returns
returns c = (refl, c.clear.ensures ∙ padded-none c.args.out.now)
