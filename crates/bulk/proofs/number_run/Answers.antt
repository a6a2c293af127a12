-- `bulk::number_run` meets its contract: each return is an arm of `begun`, by the number that was read.
use mathlib.Core.Path.{ap, ◌∙◌}
use Rattle.numbers.specs.NumberInner.{why_signed}
use Rattle.columns.specs.declared.number.Answer.TheVariants.{Bad}
use Rattle.columns.specs.Number.{begun}
use Rattle.bulk.proofs.number_run.Goals as goal

pub returns-in_default : goal.returns-in_default
unfolding begun
returns-in_default c = let told = c.in_default.is in
    rw (← c.read_number-r.ensures, told) (ap Bad (c.why_signed.ensures ∙ ap why_signed told))
