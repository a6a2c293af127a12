-- `refuse` meets its contract: all that was lent is cleared.
use Rattle.std.proofs.Common.{refl, length, ◌∙◌}
use Rattle.numbers.proofs.Output.{padded-none}
use Rattle.updates.proofs.Laws.{rows_none, words-none}
use Rattle.diffs.proofs.refuse.Goals as goal

pub returns : goal.returns
returns c = let a = c.args in (
  c.none.ensures,
  c.clear.ensures ∙ rows_none a.rows.now (length a.rows.now) a.why refl,
  c.clear-2.ensures ∙ words-none a.ranges.now a.why,
  c.clear-3.ensures ∙ padded-none a.out.now,
)
