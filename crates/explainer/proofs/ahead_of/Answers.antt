-- `explainer::ahead_of` meets its contract: a kept block is one of those ahead, since it is not the one sought.
use mathlib.Core.Path.{refl, sym, ◌∙◌}
use Rattle.explainer.specs.Following.{ahead_of}
use Rattle.explainer.proofs.Seeking.{not_first}
use Rattle.explainer.proofs.ahead_of.Goals as goal

pub overflow_sub-result : goal.overflow_sub-result
overflow_sub-result c = not_first c.args.q c.args.ahead c.requires (sym c.is_kept.ensures ∙ c.if-is_kept.true)

pub returns-then-is_kept : goal.returns-then-is_kept
unfolding ahead_of
returns-then-is_kept c = rw (sym c.is_kept.ensures ∙ c.if-is_kept.true) refl

pub returns : goal.returns
unfolding ahead_of
returns c = rw (sym c.is_kept.ensures ∙ c.if-is_kept.false) refl
