-- `numbers::significant` meets its contract: no more leading zeros than bits.
use native.Mathlib.Omega.{arith}
use lib.Count.{leading_le}
use Rattle.numbers.proofs.significant.Goals as goal

pub overflow_cast-result : goal.overflow_cast-result
overflow_cast-result c = omega (arith, leading_le 64 c.args.x)

pub overflow_sub-result : goal.overflow_sub-result
overflow_sub-result c = leading_le 64 c.args.x
