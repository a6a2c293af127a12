-- `next_number` meets its contract, by the cases of the answer.
use mathlib.Core.Path.{sym, ap, ◌∙◌}
use Rattle.wairokabi.specs.Promises.{number_answer}
use Rattle.wairokabi.proofs.next_number.Goals as goal

pub returns-in-Next : goal.returns-in-Next
unfolding number_answer
returns-in-Next c = let r = c.next.ensures in sym (ap (number_answer _) (sym r ∙ c.in-Next.is))

pub returns-in-Bad : goal.returns-in-Bad
unfolding number_answer
returns-in-Bad c = let r = c.next.ensures in sym (ap (number_answer _) (sym r ∙ c.in-Bad.is))
