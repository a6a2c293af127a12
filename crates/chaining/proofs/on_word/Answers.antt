-- `chaining::on_word` meets its contract: nothing, or a number.
use mathlib.Core.Path.{ap, ◌∙◌}
use Prim.Native.Nat.{ℕ}
use native.Mathlib.Omega.{arith}
use Rattle.placing.specs.Placing.{on_number}
use Rattle.chaining.proofs.Ways.{on_none, on_some}
use Rattle.chaining.proofs.on_word.Goals as goal

pub returns-then-word-eq0 : goal.returns-then-word-eq0
returns-then-word-eq0 c = c.none.ensures ∙ on_none _ _ (omega arith)

pub returns : goal.returns
returns c = ap (λ (k : ℕ). on_number c.args.client k) c.cap-number.ensures ∙ on_some _ _ (λ e. omega arith)
