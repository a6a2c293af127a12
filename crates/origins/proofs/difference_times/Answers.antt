-- `origins::difference_times` meets its contract: by whether an odd number was read.
use mathlib.Core.Path.{refl}
use borrow.Author.Tests.{eq-eqb, ne_eqb}
use Rattle.origins.specs.Origins.{difference_times}
use Rattle.origins.proofs.difference_times.Goals as goal

pub returns-in_default : goal.returns-in_default
unfolding difference_times
returns-in_default c = rw (← c.read_signed.ensures, c.in_default.is) refl

pub returns-then-x-eq0 : goal.returns-then-x-eq0
unfolding difference_times
returns-then-x-eq0 c = let d = c in
    rw (← d.read_signed.ensures, d.in-Value.is, eq-eqb _ 0 c.if-x-eq0.true) refl

pub returns : goal.returns
unfolding difference_times
returns c = let d = c in
    rw (← d.read_signed.ensures, d.in-Value.is, ne_eqb _ 0 c.if-x-eq0.false) c.counted.ensures
