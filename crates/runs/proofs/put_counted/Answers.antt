-- `put_counted` meets its contract: the head, and the count where there is one.
use native.Mathlib.Omega.{arith}
use lib.ListN.{length-append}
use Rattle.numbers.proofs.Output.{sets-append}
use Rattle.runs.proofs.Writing.{run-one, run-many, run-many-length, run-head}
use Rattle.runs.proofs.put_counted.Goals as goal

pub write_signed-mid-requires : goal.write_signed-mid-requires
write_signed-mid-requires c = let a = c.args in omega (arith, run-head a.minus a.x a.n)

pub returns-then-n-eq0 : goal.returns-then-n-eq0
returns-then-n-eq0 c = let a = c.args in rw (run-one a.minus a.x _ c.if-n-eq0.true) c.write_signed-mid.ensures

pub write_unsigned-requires : goal.write_unsigned-requires
write_unsigned-requires c = let a = c.args in
    omega (arith, run-many-length a.minus a.x a.n c.if-n-eq0.false, c.write_signed-mid.ensures.0, c.write_signed-mid.auto.out)

pub returns : goal.returns
returns c = let a = c.args in
    rw (run-many a.minus a.x _ c.if-n-eq0.false, length-append, sets-append, ← c.write_signed-mid.ensures.0, ← c.write_signed-mid.ensures.1) (omega (arith, c.write_unsigned.ensures.0, c.write_signed-mid.ensures.0), c.write_unsigned.ensures.1)
