-- `summaries::read_summary` meets its contract, by the cases of its answer.
use Rattle.summaries.proofs.Answers.{read_some, read_none}
use Rattle.summaries.proofs.read_summary.Goals as goal

pub returns-in-Ok : goal.returns-in-Ok
returns-in-Ok c = (read_some _ c.read.result _ c.read.ensures.0 c.in-Ok.is, c.read.ensures.1)

pub returns-in-Err : goal.returns-in-Err
returns-in-Err c = (read_none _ c.read.result _ c.read.ensures.0 c.in-Err.is, c.read.ensures.1)
