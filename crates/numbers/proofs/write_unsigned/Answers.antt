-- `numbers::write_unsigned` meets its contract: what is left to write, from here on, onto what is there now, is the whole onto what was there.
use mathlib.Core.Path.{ap}
use native.Mathlib.Omega.{arith}
use native.Mathlib.Numerals.{add-one}
use lib.ListN.{length, length-set}
use Rattle.numbers.proofs.Laws.{unsigned-last, unsigned-more, unsigned-pos}
use Rattle.numbers.proofs.write_unsigned.Goals as goal

pub bounds-out-i : goal.bounds-out-i
bounds-out-i c = omega (arith, unsigned-pos c.loop-v.v)

pub overflow_add-i : goal.overflow_add-i
overflow_add-i c = omega (arith, unsigned-pos c.loop-v.v, c.well_formed.0.0)

pub loop-v-preserved : goal.loop-v-preserved
loop-v-preserved c = let e = unsigned-more c.loop-v.v c.loop-v.invariant.3 c.loop-v-test.true in
    (rw (add-one c.loop-v.i) (rw e at c.loop-v.invariant.0), omega (arith, ap length e), simp length-set c.loop-v.invariant.2, omega arith)

pub bounds-out-i-2 : goal.bounds-out-i-2
bounds-out-i-2 c = omega (arith, unsigned-pos c.loop-v.v)

pub returns : goal.returns
returns c = let e = unsigned-last c.loop-v.v c.loop-v-test.false in
    (omega (arith, ap length e), rw e at c.loop-v.invariant.0)
