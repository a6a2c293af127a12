-- `strict::refuse` meets its contract: both tables cleared.
use Rattle.std.proofs.Common.{refl, ◌∙◌}
use Rattle.updates.proofs.Laws.{rows_none, words-none}
use Rattle.strict.proofs.refuse.Goals as goal

pub returns : goal.returns
returns c = (c.none.ensures, c.clear.ensures ∙ rows_none c.args.rows.now _ c.args.why refl, c.clear-2.ensures ∙ words-none c.args.ranges.now c.args.why)
