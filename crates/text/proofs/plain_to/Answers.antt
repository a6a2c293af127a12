-- `text::plain_to` meets its contract: each byte passed is below 128.
use mathlib.Core.Path.{◌≡◌}
use native.Mathlib.Omega.{arith}
use Rattle.text.proofs.Plain.{plain-none, plain_more}
use Rattle.text.proofs.plain_to.Goals as goal

pub loop-i-init : goal.loop-i-init
loop-i-init c = (omega arith, c.requires.0, plain-none c.args.s.now c.args.from)

pub returns-then-s-i-ge128 : goal.returns-then-s-i-ge128
returns-then-s-i-ge128 c = c.loop-i.invariant

pub loop-i-preserved : goal.loop-i-preserved
loop-i-preserved c = let k = c in (
  omega arith,
  omega arith,
  plain_more k.args.s.now _ c.loop-i.i k.args.to c.loop-i.invariant.0 c.loop-i-test.true k.requires.1 c.loop-i.invariant.2 c.if-s-i-ge128.false,
)

pub returns : goal.returns
returns c = let e : c.loop-i.i ≡ c.args.to = omega (arith, c.loop-i-test.false, c.loop-i.invariant.1) in
    (omega arith, omega arith, rw e at c.loop-i.invariant.2)
