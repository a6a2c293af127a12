-- `anys::skip_any` meets its contract: it passes over a list of one.
use Rattle.anys.proofs.skip_any.Goals as goal

pub returns : goal.returns
returns c = c.skip_anys.ensures
