-- `summary::upper` meets its contract: the client shifted up, and what is left of the first clock below it.
use Rattle.summary.proofs.Laws.{upper-bits}
use Rattle.summary.proofs.upper.Goals as goal

pub returns : goal.returns
returns c = let a = c.args in upper-bits a.client a.first
