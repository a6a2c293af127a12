-- `encoder::steps::end_plan` meets its contract: the last section is planned.
use Rattle.encoder.specs.Passes.{outcome_of}
use Rattle.encoder.proofs.steps.end_plan.Goals as goal

pub returns : goal.returns
unfolding outcome_of
returns c = (rw (← c.end_section-sections.ensures.0), c.end_section-sections.ensures.1)
