-- `is_in_limits` meets its contract: a test at a time, with no sum that overflows.
use Prim.Native.Nat.{◌+◌}
use mathlib.Core.Path.{refl}
use native.Mathlib.Omega.{arith}
use borrow.Author.Tests.{le-leb, lt-leb, le-ltb}
use Rattle.numbers.specs.Limits.{max_clock}
use Rattle.parts.specs.Brim.{brim}
use Rattle.kept.proofs.Sane.{ltb-moved}
use Rattle.sizing.specs.Plain.{in_limits}
use Rattle.sizing.proofs.is_in_limits.Goals as goal

pub returns-then-length-gt-MAX_CLOCK : goal.returns-then-length-gt-MAX_CLOCK
unfolding in_limits
returns-then-length-gt-MAX_CLOCK c = let b = c.args.b in
    rw (lt-leb (b.clock + b.length.0) max_clock (omega (arith, c.if-length-gt-MAX_CLOCK.true))) refl

pub returns-then-end-gt-MAX_CLOCK : goal.returns-then-end-gt-MAX_CLOCK
unfolding in_limits
returns-then-end-gt-MAX_CLOCK c = let b = c.args.b in
    rw (lt-leb (b.clock + b.length.0) max_clock (omega (arith, c.if-end-gt-MAX_CLOCK.true))) refl

pub returns-then-part-ge-BRIM : goal.returns-then-part-ge-BRIM
unfolding in_limits
returns-then-part-ge-BRIM c = let b = c.args.b in
    rw (
      le-leb (b.clock + b.length.0) max_clock (omega (arith, c.if-end-gt-MAX_CLOCK.false)),
      le-ltb (b.part.place + b.part.bytes.0) brim (omega (arith, c.if-part-ge-BRIM.true)),
    )
    refl

pub returns : goal.returns
unfolding in_limits
returns c = let b = c.args.b in
    rw (le-leb (b.clock + b.length.0) max_clock (omega (arith, c.if-end-gt-MAX_CLOCK.false)))
    (ltb-moved b.part.bytes.0 b.part.place brim (omega (arith, c.if-part-ge-BRIM.false)))
