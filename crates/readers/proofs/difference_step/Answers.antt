-- `difference_step` meets its contract, by the cases of the answer.
use mathlib.Core.Path.{sym, ap, ◌∙◌}
use Rattle.readers.specs.Readers.{difference_step}
use Rattle.readers.proofs.difference_step.Goals as goal

pub returns-in-Next : goal.returns-in-Next
unfolding difference_step
returns-in-Next c = let r = c.next.ensures in rw c.value_of-answer.ensures (sym (ap (difference_step _) (sym r ∙ c.in-Next.is)))

pub returns-in-Bad : goal.returns-in-Bad
unfolding difference_step
returns-in-Bad c = let r = c.next.ensures in rw c.refuse-answer.ensures (sym (ap (difference_step _) (sym r ∙ c.in-Bad.is)))
