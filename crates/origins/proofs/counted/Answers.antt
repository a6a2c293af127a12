-- `origins::counted` meets its contract: by what was read.
use mathlib.Core.Path.{refl}
use borrow.Author.Tests.{lt-ltb, le-ltb}
use Rattle.origins.specs.Origins.{times_read}
use Rattle.origins.proofs.counted.Goals as goal

pub returns-in_default : goal.returns-in_default
unfolding times_read
returns-in_default c = rw (← c.read_unsigned.ensures, c.in_default.is) refl

pub returns-then-c-gt-MAX_COUNT : goal.returns-then-c-gt-MAX_COUNT
unfolding times_read
returns-then-c-gt-MAX_COUNT c = rw (← c.read_unsigned.ensures, c.in-Number.is, lt-ltb _ _ c.if-c-gt-MAX_COUNT.true) refl

pub returns : goal.returns
unfolding times_read
returns c = rw (← c.read_unsigned.ensures, c.in-Number.is, le-ltb _ _ c.if-c-gt-MAX_COUNT.false) refl
