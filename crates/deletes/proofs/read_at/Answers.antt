-- `deletes::read_at` meets its contract: what is left of the limit decides.
use Prim.Native.Nat.{◌+◌}
use mathlib.Core.Path.{refl}
use native.Mathlib.Omega.{arith}
use borrow.Author.Tests.{lt-ltb, le-ltb}
use Rattle.deletes.specs.Steps.{restored_to}
use Rattle.deletes.proofs.read_at.Goals as goal

pub returns-in_default : goal.returns-in_default
unfolding restored_to
returns-in_default c = rw (← c.read_unsigned-r.ensures, c.in_default.is) refl

pub returns-then-most-low : goal.returns-then-most-low
unfolding restored_to
returns-then-most-low c = let a = c.args in
    rw (← c.read_unsigned-r.ensures, c.in-Number.is, lt-ltb a.most (a.low + c.in-Number.v) (omega (arith, c.if-most-low.true))) refl

pub returns-then-left-v : goal.returns-then-left-v
unfolding restored_to
returns-then-left-v c = let a = c.args in
    rw (← c.read_unsigned-r.ensures, c.in-Number.is, lt-ltb a.most (a.low + c.in-Number.v) (omega (arith, c.if-most-low.false, c.if-left-v.true))) refl

pub returns : goal.returns
unfolding restored_to
returns c = let a = c.args in
    rw (← c.read_unsigned-r.ensures, c.in-Number.is, le-ltb a.most (a.low + c.in-Number.v) (omega (arith, c.if-most-low.false, c.if-left-v.false))) refl
