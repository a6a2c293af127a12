-- `plan_one` meets its contract.
use Rattle.std.proofs.Common.{◌≡◌, ◌∙◌, ℕ, zero, suc, min, eqb, refl, arith}
use borrow.Author.Tests.{ne_eqb}
use Rattle.numbers.specs.Number.{pick}
use Rattle.encoder.proofs.Alone.{one-plan}
use Rattle.encoder.proofs.plan_one.Goals as goal

-- a head counts one piece
one_piece : (n : ℕ) → min n 1 ≡ pick (eqb n 0) 0 1
one_piece zero = refl
one_piece (suc n) = rw (ne_eqb (suc n) 0 (λ e. omega arith)) (omega arith)

pub returns : goal.returns
returns c = let a = c.args in one-plan a.plan.now a.c c.min.result c.requires (c.min.ensures ∙ one_piece a.c.head)
