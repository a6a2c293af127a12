-- `bits::store` meets its contract: what is left to store, from here on, is the whole onto what was there.
use Prim.Native.Nat.{suc, ◌+◌, ◌-◌}
use mathlib.Core.Path.{◌≡◌}
use native.Mathlib.Omega.{arith}
use Rattle.bits.proofs.Places.{top-more, top-none}
use Rattle.bits.proofs.store.Goals as goal

pub loop-i-preserved : goal.loop-i-preserved
loop-i-preserved c = let l = c.loop-i in
    let place : c.args.at + (l.i + 1) ≡ suc (c.args.at + l.i) = omega arith in
    let fewer : c.args.n - (l.i + 1) ≡ c.args.n - l.i - 1 = omega arith in
    rw (place, fewer) (rw (top-more (c.args.n - l.i) l.rest (omega arith)) at l.invariant)

pub returns : goal.returns
returns c = rw (top-none (c.args.n - c.loop-i.i) c.loop-i.rest (omega arith)) at c.loop-i.invariant
