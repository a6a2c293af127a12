-- `vector::read_up_to` meets its contract, by the limit.
use mathlib.Core.Path.{refl}
use borrow.Author.Tests.{lt-ltb, le-ltb}
use Rattle.decoder.specs.Line.{number_at, var_at, bounded, up_to}
use Rattle.vector.proofs.read_up_to.Goals as goal

pub returns-in_default : goal.returns-in_default
unfolding up_to var_at bounded number_at
returns-in_default c = rw (← c.read_unsigned-r.ensures, c.in_default.is) refl

pub returns-then-most-v : goal.returns-then-most-v
unfolding up_to var_at bounded number_at
returns-then-most-v c = rw (← c.read_unsigned-r.ensures, c.in-Number.is, lt-ltb c.args.most c.in-Number.v c.if-most-v.true) refl

pub returns : goal.returns
unfolding up_to var_at bounded number_at
returns c = rw (← c.read_unsigned-r.ensures, c.in-Number.is, le-ltb c.args.most c.in-Number.v c.if-most-v.false) refl
