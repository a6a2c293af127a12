-- `kept::bytes_lie` meets its contract: a test at a time, with no sum that overflows.
use Prim.Native.Nat.{◌+◌}
use mathlib.Core.Path.{refl}
use native.Mathlib.Omega.{arith}
use borrow.Author.Tests.{le-leb, lt-leb, le-ltb}
use Rattle.parts.specs.Brim.{brim}
use Rattle.kept.specs.Plan.{bytes_lie}
use Rattle.kept.proofs.Sane.{ltb-moved}
use Rattle.kept.proofs.cursor.bytes_lie.Goals as goal

pub returns-then-bytes-skip : goal.returns-then-bytes-skip
unfolding bytes_lie
returns-then-bytes-skip c = let a = c.args in
    rw (lt-leb (a.skip.0 + a.keep.0) a.part.bytes.0 (omega (arith, c.if-bytes-skip.true))) refl

pub returns-then-behind-keep : goal.returns-then-behind-keep
unfolding bytes_lie
returns-then-behind-keep c = let a = c.args in
    rw (lt-leb (a.skip.0 + a.keep.0) a.part.bytes.0 (omega (arith, c.if-behind-keep.true))) refl

pub returns-then-part-ge-BRIM : goal.returns-then-part-ge-BRIM
unfolding bytes_lie
returns-then-part-ge-BRIM c = let a = c.args in
    rw (
      le-leb (a.skip.0 + a.keep.0) a.part.bytes.0 (omega arith),
      le-ltb (a.part.place + a.part.bytes.0) brim (omega (arith, c.if-part-ge-BRIM.true)),
    )
    refl

pub returns : goal.returns
unfolding bytes_lie
returns c = let a = c.args in
    rw (le-leb (a.skip.0 + a.keep.0) a.part.bytes.0 (omega arith))
    (ltb-moved a.part.bytes.0 a.part.place brim (omega arith))
