-- `next_byte` meets its contract, by the cases of the answer.
use mathlib.Core.Path.{sym, ap, ◌∙◌}
use Rattle.wairokabi.specs.Promises.{byte_answer}
use Rattle.wairokabi.proofs.next_byte.Goals as goal

pub returns-in-Next : goal.returns-in-Next
unfolding byte_answer
returns-in-Next c = let r = c.next.ensures in sym (ap (byte_answer _) (sym r ∙ c.in-Next.is))

pub returns-in-Bad : goal.returns-in-Bad
unfolding byte_answer
returns-in-Bad c = let r = c.next.ensures in sym (ap (byte_answer _) (sym r ∙ c.in-Bad.is))
