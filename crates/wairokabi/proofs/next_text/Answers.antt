-- `next_text` meets its contract, by the cases of the answer.
use mathlib.Core.Path.{sym, ap, ◌∙◌}
use Rattle.wairokabi.specs.Promises.{text_answer}
use Rattle.wairokabi.proofs.next_text.Goals as goal

pub returns-in-Next : goal.returns-in-Next
unfolding text_answer
returns-in-Next c = let r = c.next.ensures in sym (ap (text_answer _) (sym r ∙ c.in-Next.is))

pub returns-in-Bad : goal.returns-in-Bad
unfolding text_answer
returns-in-Bad c = let r = c.next.ensures in sym (ap (text_answer _) (sym r ∙ c.in-Bad.is))
