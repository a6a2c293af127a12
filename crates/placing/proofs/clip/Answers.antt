-- `placing::clip` meets its contract: no more rows than there are.
use mathlib.Core.Path.{ap, ◌∙◌}
use Prim.Native.Nat.{ℕ}
use Rattle.placing.specs.Halving.{span}
use Rattle.placing.proofs.Places.{min-clipped}
use Rattle.placing.proofs.clip.Goals as goal

pub returns : goal.returns
returns c = let a = c.args in ap (λ (n : ℕ). span a.s.lo n) c.min.ensures ∙ min-clipped a.s a.rows
