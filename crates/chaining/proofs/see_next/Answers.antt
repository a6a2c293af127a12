-- `chaining::see_next` meets its contract: a Skip, a block that ends at or below the clock, the last of all, or the next.
use native.Mathlib.Omega.{arith}
use Rattle.chaining.proofs.Ways.{next-skip, next-out, next-all, next-some}
use Rattle.chaining.proofs.see_next.Goals as goal

pub returns-then-kind-eq-SKIP : goal.returns-then-kind-eq-SKIP
returns-then-kind-eq-SKIP c = next-skip _ _ _ (omega arith)

pub returns-then-length-clock : goal.returns-then-length-clock
returns-then-length-clock c = next-out _ _ _ (λ e. omega arith) (omega arith)

pub returns-then-t-eq1 : goal.returns-then-t-eq1
returns-then-t-eq1 c = next-all _ _ _ (λ e. omega arith) (omega arith) (omega arith)

pub returns : goal.returns
returns c = next-some _ _ _ (λ e. omega arith) (omega arith) (λ e. omega arith)
