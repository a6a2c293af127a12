-- `content::stored_part` meets its contract: the kind decides.
use mathlib.Core.Path.{sym, ◌∙◌}
use Rattle.content.specs.Content.{stored}
use Rattle.content.proofs.stored_part.Goals as goal

pub returns-then-is_given : goal.returns-then-is_given
unfolding stored
returns-then-is_given c = rw (sym c.is_given.ensures ∙ c.if-is_given.true)

pub returns : goal.returns
unfolding stored
returns c = rw (sym c.is_given.ensures ∙ c.if-is_given.false)
