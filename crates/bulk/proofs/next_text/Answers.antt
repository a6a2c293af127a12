-- `bulk::next_text` meets its contract: each return is an arm of `drawn`, by what the unit lengths give.
use mathlib.Core.Path.{ap, ◌∙◌}
use Rattle.string.specs.declared.Answer.TheVariants.{Bad}
use Rattle.columns.specs.NumberInner.{why_number}
use Rattle.string.specs.String.{units_drawn, next_text}
use Rattle.bulk.proofs.next_text.Goals as goal

pub returns-in_default : goal.returns-in_default
unfolding next_text units_drawn
returns-in_default c = let told = c.in_default.is in
    rw (← c.next_unit-r.ensures, told) (ap Bad (c.why.ensures ∙ ap why_number told))

pub returns : goal.returns
unfolding next_text units_drawn
returns c = rw (← c.next_unit-r.ensures, c.in-Next.is) c.take.ensures
