-- `numbers::size_unsigned` meets its contract, by the law of the highest set bit.
use native.Mathlib.Omega.{arith}
use Rattle.numbers.proofs.Laws.{size_none, size-some}
use Rattle.numbers.proofs.size_unsigned.Goals as goal

pub returns-then-k-eq0 : goal.returns-then-k-eq0
returns-then-k-eq0 c = let s = c.significant-k.ensures.0 in
    (size_none c.args.x c.ranges.x.fits (omega (arith, s)), omega arith)

pub returns : goal.returns
returns c = let s = c.significant-k.ensures.0 in
    let e = size-some c.args.x c.ranges.x.fits (omega (arith, s)) in
    (omega (arith, s, e), omega arith)
