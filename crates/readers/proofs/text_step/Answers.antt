-- `text_step` meets its contract, by the cases of the answer.
use mathlib.Core.Path.{sym, ap, ◌∙◌}
use Rattle.readers.specs.Readers.{text_step}
use Rattle.readers.proofs.text_step.Goals as goal

pub returns-in-Next : goal.returns-in-Next
unfolding text_step
returns-in-Next c = let r = c.next.ensures in sym (ap (text_step _) (sym r ∙ c.in-Next.is))

pub returns-in-Bad : goal.returns-in-Bad
unfolding text_step
returns-in-Bad c = let r = c.next.ensures in rw c.refuse-answer.ensures (sym (ap (text_step _) (sym r ∙ c.in-Bad.is)))
