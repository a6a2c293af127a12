-- `text::is_settled` meets its contract: a return a way of `settled`.
use mathlib.Core.Path.{sym, ap, ◌∙◌}
use Rattle.text.specs.Utf8.{settled}
use Rattle.text.proofs.Laws.{settled-open}
use Rattle.text.proofs.is_settled.Goals as goal

pub returns-in-Broken : goal.returns-in-Broken
unfolding settled
returns-in-Broken c = rw c.in-Broken.is

pub returns-in-Open : goal.returns-in-Open
returns-in-Open c = settled-open _ _ _ _ ∙ ap settled (sym c.in-Open.is)
