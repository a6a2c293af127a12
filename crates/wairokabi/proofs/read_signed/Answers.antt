-- `read_signed` meets its contract, by the cases of the answer.
use mathlib.Core.Path.{sym, ap, ◌∙◌}
use Rattle.wairokabi.specs.Promises.{signed_answer}
use Rattle.wairokabi.proofs.read_signed.Goals as goal

pub returns-in-Value : goal.returns-in-Value
unfolding signed_answer
returns-in-Value c = let r = c.read_signed.ensures in sym (ap signed_answer (sym r ∙ c.in-Value.is))

pub returns-in-Wrong : goal.returns-in-Wrong
unfolding signed_answer
returns-in-Wrong c = let r = c.read_signed.ensures in sym (ap signed_answer (sym r ∙ c.in-Wrong.is))
