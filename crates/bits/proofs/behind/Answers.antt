-- `bits::behind` meets its contract: what is shifted up, and what is shifted down.
use Prim.Native.Nat.{ℕ, ◌+◌, ◌/◌, ◌^◌}
use mathlib.Core.Path.{ap}
use native.Mathlib.Omega.{arith}
use borrow.Author.Rules.{rules}
use Rattle.bits.proofs.Passing.{head_of, behind-lt}
use Rattle.bits.proofs.behind.Goals as goal

pub overflow_add-result : goal.overflow_add-result
overflow_add-result c = let a = c.args in
    omega (arith, head_of a.r a.high (search rules), behind-lt a.r a.high a.w (search rules) (search rules))

pub returns : goal.returns
returns c = let a = c.args in ap (λ (j : ℕ). j + a.w / 2 ^ a.r) (head_of a.r a.high (search rules))
