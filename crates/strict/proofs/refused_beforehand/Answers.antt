-- `strict::refused_beforehand` meets its contract: what is refused early, then the flag, where there is one.
use mathlib.Core.Path.{sym, ◌∙◌}
use Rattle.strict.proofs.Laws.{as-early, no_flag, no_bytes, flag, flag-zero}
use Rattle.strict.proofs.refused_beforehand.Goals as goal

pub returns-then-early-ne0 : goal.returns-then-early-ne0
returns-then-early-ne0 c = c.refused_early-early.ensures ∙ as-early _ _ (λ z. c.if-early-ne0.true (c.refused_early-early.ensures ∙ z))

pub returns-then-form-eq1 : goal.returns-then-form-eq1
returns-then-form-eq1 c = no_flag _ _ (sym c.refused_early-early.ensures ∙ c.if-early-ne0.false) c.if-form-eq1.true

pub returns-then-update-eq0 : goal.returns-then-update-eq0
returns-then-update-eq0 c = no_bytes _ _ (sym c.refused_early-early.ensures ∙ c.if-early-ne0.false) c.if-form-eq1.false c.if-update-eq0.true

pub returns-then-update-ne0 : goal.returns-then-update-ne0
returns-then-update-ne0 c = flag _ _ (sym c.refused_early-early.ensures ∙ c.if-early-ne0.false) c.if-form-eq1.false c.if-update-ne0.true

pub returns : goal.returns
returns c = flag-zero _ _ (sym c.refused_early-early.ensures ∙ c.if-early-ne0.false) c.if-form-eq1.false c.if-update-ne0.false
