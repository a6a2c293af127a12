-- `read_unsigned` meets its contract, by the cases of the answer.
use mathlib.Core.Path.{sym, ap, ◌∙◌}
use Rattle.wairokabi.specs.Promises.{unsigned_answer}
use Rattle.wairokabi.proofs.read_unsigned.Goals as goal

pub returns-in-Number : goal.returns-in-Number
unfolding unsigned_answer
returns-in-Number c = let r = c.read_unsigned.ensures in sym (ap unsigned_answer (sym r ∙ c.in-Number.is))

pub returns-in-Refused : goal.returns-in-Refused
unfolding unsigned_answer
returns-in-Refused c = let r = c.read_unsigned.ensures in sym (ap unsigned_answer (sym r ∙ c.in-Refused.is))
