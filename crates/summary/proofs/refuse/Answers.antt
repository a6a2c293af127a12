-- `summary::refuse` meets its contract: zeros everywhere.
use mathlib.Core.Path.{refl, ◌∙◌}
use Rattle.numbers.proofs.Output.{padded-none}
use Rattle.summary.specs.Words.{words_of}
use Rattle.summary.specs.WordsInner.{answer_of}
use Rattle.summary.proofs.refuse.Goals as goal

pub returns : goal.returns
unfolding answer_of words_of
returns c = (refl, c.clear.ensures ∙ padded-none c.args.rows.now)
