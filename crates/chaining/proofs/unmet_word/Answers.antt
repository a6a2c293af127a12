-- `chaining::unmet_word` meets its contract: the queue has come past the number, or not.
use mathlib.Core.Path.{sym, ◌∙◌}
use Rattle.chaining.proofs.Ways.{met_by, word-met, word-unmet}
use Rattle.chaining.proofs.unmet_word.Goals as goal

pub returns-then-is_met : goal.returns-then-is_met
returns-then-is_met c = word-met _ _ _ _ (sym (c.is_met.ensures ∙ met_by _ _ _ _ _ _ c.rank_of-p.ensures.0 c.is_at-named.ensures) ∙ c.if-is_met.true)

pub returns : goal.returns
returns c = word-unmet _ _ _ _ (sym (c.is_met.ensures ∙ met_by _ _ _ _ _ _ c.rank_of-p.ensures.0 c.is_at-named.ensures) ∙ c.if-is_met.false)
