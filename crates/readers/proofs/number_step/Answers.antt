-- `number_step` meets its contract, by the cases of the answer.
use mathlib.Core.Path.{sym, ap, ◌∙◌}
use Rattle.readers.specs.Readers.{number_step}
use Rattle.readers.proofs.number_step.Goals as goal

pub returns-in-Next : goal.returns-in-Next
unfolding number_step
returns-in-Next c = let r = c.next.ensures in rw c.value_of-answer.ensures (sym (ap (number_step _) (sym r ∙ c.in-Next.is)))

pub returns-in-Bad : goal.returns-in-Bad
unfolding number_step
returns-in-Bad c = let r = c.next.ensures in rw c.refuse-answer.ensures (sym (ap (number_step _) (sym r ∙ c.in-Bad.is)))
