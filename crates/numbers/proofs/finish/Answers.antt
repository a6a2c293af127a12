-- `numbers::finish` meets its contract: what stands before the end stays, the rest is cleared.
use mathlib.Core.Path.{refl, ◌∙◌}
use Rattle.numbers.proofs.Output.{padded-some}
use Rattle.numbers.proofs.finish.Goals as goal

pub returns : goal.returns
returns c = (refl, c.clear.ensures ∙ padded-some c.args.out.now c.args.bytes c.requires)
