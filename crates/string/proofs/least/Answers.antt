-- `string::least` meets its contract: each arm returns one of the two, by the test.
use mathlib.Core.Path.{refl}
use mathlib.Core.Logic.{inl, inr}
use native.Mathlib.Omega.{arith}
use Rattle.string.proofs.least.Goals as goal

pub returns-then-a-b : goal.returns-then-a-b
returns-then-a-b c = (omega arith, omega arith, inl refl)

pub returns-else-a-b : goal.returns-else-a-b
returns-else-a-b c = (omega arith, omega arith, inr refl)
