-- `numbers::write_signed` meets its contract: the first byte is all, or the rest is an unsigned number.
use mathlib.Core.Path.{refl, ap}
use native.Mathlib.Omega.{arith}
use native.Mathlib.Numerals.{add-one}
use lib.ListN.{length, length-set}
use Rattle.numbers.proofs.Laws.{signed-one, signed-many}
use Rattle.numbers.proofs.write_signed.Goals as goal

pub bounds-out-at : goal.bounds-out-at
bounds-out-at c = let e = signed-one c.args.minus _ c.if-x-lt64.true in
    omega (arith, ap length e)

pub returns-then-x-lt64 : goal.returns-then-x-lt64
returns-then-x-lt64 c = let e = signed-one c.args.minus _ c.if-x-lt64.true in
    rw (e, ← c.sign_bit-sign.ensures.0) (omega arith, refl)

pub bounds-out-at-2 : goal.bounds-out-at-2
bounds-out-at-2 c = let e = signed-many c.args.minus _ c.if-x-lt64.false in
    omega (arith, ap length e)

pub write_unsigned-requires : goal.write_unsigned-requires
write_unsigned-requires c = let e = signed-many c.args.minus _ c.if-x-lt64.false in
    simp length-set (omega (arith, ap length e))

pub returns : goal.returns
returns c = let d = c in
    let e = signed-many d.args.minus _ d.if-x-lt64.false in
    let w = c.write_unsigned.ensures in
    rw (e, ← d.sign_bit-sign.ensures.0) (omega (arith, w.0), rw add-one at w.1)
