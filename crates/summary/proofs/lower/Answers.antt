-- `summary::lower` meets its contract: three numbers, each behind the one before it.
use Rattle.summary.proofs.Laws.{lower-bits}
use Rattle.summary.proofs.lower.Goals as goal

pub returns : goal.returns
returns c = let a = c.args in lower-bits a.first a.end a.blocks
