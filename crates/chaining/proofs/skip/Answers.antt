-- `chaining::skip` meets its contract: the first Skip, or one more.
use Rattle.chaining.proofs.Ways.{skip-least}
use Rattle.chaining.proofs.skip.Goals as goal

pub returns : goal.returns
returns c = rw (c.min.ensures, c.from.ensures) (skip-least _ _ _)
