-- `origins::number_times` meets its contract: by the sign that was read.
use mathlib.Core.Path.{refl}
use Rattle.origins.specs.Origins.{number_times}
use Rattle.origins.proofs.number_times.Goals as goal

pub returns-in_default : goal.returns-in_default
unfolding number_times
returns-in_default c = rw (← c.read_signed.ensures, c.in_default.is) refl

pub returns-then-minus : goal.returns-then-minus
unfolding number_times
returns-then-minus c = let d = c in
    rw (← d.read_signed.ensures, d.in-Value.is, c.if-minus.true) c.counted.ensures

pub returns : goal.returns
unfolding number_times
returns c = let d = c in
    rw (← d.read_signed.ensures, d.in-Value.is, c.if-minus.false) refl
