-- `step_of` meets its contract, by the column that the place says.
use mathlib.Core.Path.{sym, ap, ◌∙◌}
use Rattle.readers.specs.Readers.{step_of}
use Rattle.readers.proofs.step_of.Goals as goal

pub returns-in-Number : goal.returns-in-Number
unfolding step_of
returns-in-Number c = c.number_step.ensures ∙ ap (step_of _) (sym c.in-Number.is)

pub returns-in-Difference : goal.returns-in-Difference
unfolding step_of
returns-in-Difference c = c.difference_step.ensures ∙ ap (step_of _) (sym c.in-Difference.is)

pub returns-in-Byte : goal.returns-in-Byte
unfolding step_of
returns-in-Byte c = c.byte_step.ensures ∙ ap (step_of _) (sym c.in-Byte.is)

pub returns-in-Text : goal.returns-in-Text
unfolding step_of
returns-in-Text c = c.text_step.ensures ∙ ap (step_of _) (sym c.in-Text.is)
