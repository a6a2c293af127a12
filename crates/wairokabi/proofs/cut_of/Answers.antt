-- `cut_of` meets its contract, by the cases of what was taken.
use mathlib.Core.Path.{sym, ap, ◌∙◌}
use Rattle.wairokabi.specs.Promises.{cut_answer}
use Rattle.wairokabi.proofs.cut_of.Goals as goal

pub returns-in-Took : goal.returns-in-Took
unfolding cut_answer
returns-in-Took c = sym (ap cut_answer c.in-Took.is)

pub returns-in-Refused : goal.returns-in-Refused
unfolding cut_answer
returns-in-Refused c = c.refused_cut.ensures ∙ sym (ap cut_answer c.in-Refused.is)
