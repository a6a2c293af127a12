-- `anys::skip_signed` meets its contract, by cases.
use Rattle.anys.specs.Any.{on_signed, signed_at}
use Rattle.anys.proofs.skip_signed.Goals as goal

pub returns-in-Value : goal.returns-in-Value
unfolding signed_at on_signed
returns-in-Value c = rw (← c.read_signed-r.ensures, c.in-Value.is)

pub returns-in-Wrong : goal.returns-in-Wrong
unfolding signed_at on_signed
returns-in-Wrong c = rw (← c.read_signed-r.ensures, c.in-Wrong.is)
