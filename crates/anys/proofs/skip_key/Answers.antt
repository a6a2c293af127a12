-- `anys::skip_key` meets its contract, by cases.
use Rattle.anys.specs.Steps.{key_at}
use Rattle.anys.proofs.skip_key.Goals as goal

pub returns-then-keyed : goal.returns-then-keyed
unfolding key_at
returns-then-keyed c = rw c.if-keyed.true c.skip_text.ensures

pub returns : goal.returns
unfolding key_at
returns c = rw c.if-keyed.false
