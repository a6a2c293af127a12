-- `numbers::size_signed` meets its contract, by the law of the highest set bit.
use native.Mathlib.Omega.{arith}
use Rattle.numbers.proofs.Laws.{signed-size}
use Rattle.numbers.proofs.size_signed.Goals as goal

pub returns : goal.returns
returns c = let s = c.significant.ensures.0 in
    (λ m. omega (arith, s, signed-size m c.args.x c.ranges.x.fits), omega arith)
