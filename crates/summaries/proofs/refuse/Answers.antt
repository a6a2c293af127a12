-- `summaries::refuse` meets its contract: zeros everywhere.
use mathlib.Core.Path.{refl, ◌∙◌}
use Rattle.numbers.proofs.Output.{padded-none}
use Rattle.summaries.specs.Promises.{summarized, made_bytes}
use Rattle.summaries.proofs.refuse.Goals as goal

pub returns : goal.returns
unfolding summarized made_bytes
returns c = (refl, c.clear.ensures ∙ padded-none c.args.out.now)
