-- `text::gained` meets its contract: a return a way of `gain`.
use mathlib.Core.Path.{sym, ap, ◌∙◌}
use Rattle.text.specs.Utf8.{gain}
use Rattle.text.proofs.Laws.{gain-within, gain-one, gain-two}
use Rattle.text.proofs.gained.Goals as goal

pub returns-then-more-ne0 : goal.returns-then-more-ne0
returns-then-more-ne0 c = sym (ap gain c.in-Open.is ∙ gain-within _ _ _ _ c.if-more-ne0.true)

pub returns-then-value-ge65536 : goal.returns-then-value-ge65536
returns-then-value-ge65536 c = sym (ap gain c.in-Open.is ∙ gain-two _ _ _ _ c.if-more-ne0.false c.if-value-ge65536.true)

pub returns-in-Broken : goal.returns-in-Broken
unfolding gain
returns-in-Broken c = rw c.in-Broken.is

pub returns-else-value-ge65536 : goal.returns-else-value-ge65536
returns-else-value-ge65536 c = sym (ap gain c.in-Open.is ∙ gain-one _ _ _ _ c.if-more-ne0.false c.if-value-ge65536.false)
