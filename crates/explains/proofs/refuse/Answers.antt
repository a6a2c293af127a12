-- `explains::refuse` meets its contract: zeros everywhere.
use mathlib.Core.Path.{refl, ◌∙◌}
use Rattle.numbers.proofs.Output.{padded-none}
use Rattle.explainer.specs.Explanation.{words}
use Rattle.explains.specs.Promises.{refused, answer_of}
use Rattle.explains.proofs.refuse.Goals as goal

pub returns : goal.returns
unfolding answer_of refused words
returns c = (refl, c.clear.ensures ∙ padded-none c.args.out.now)
