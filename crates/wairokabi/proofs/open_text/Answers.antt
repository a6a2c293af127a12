-- `open_text` meets its contract, by the cases of the answer.
use mathlib.Core.Path.{sym, ap, ◌∙◌}
use Rattle.wairokabi.specs.Promises.{open_answer}
use Rattle.wairokabi.proofs.open_text.Goals as goal

pub returns-in-At : goal.returns-in-At
unfolding open_answer
returns-in-At c = let r = c.open.ensures in sym (ap (open_answer _) (sym r ∙ c.in-At.is))

pub returns-in-Not : goal.returns-in-Not
unfolding open_answer
returns-in-Not c = let r = c.open.ensures in rw c.start-units.ensures (sym (ap (open_answer _) (sym r ∙ c.in-Not.is)))
