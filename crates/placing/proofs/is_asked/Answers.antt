-- `placing::is_asked` meets its contract: a dependency that is not there, or by the ranges.
use mathlib.Core.Path.{refl, ap, ◌∙◌}
use mathlib.Core.Bool.{Bool, true, false}
use Rattle.numbers.specs.Number.{pick}
use Rattle.placing.specs.Placing.{is_asked}
use Rattle.placing.proofs.Places.{not-pick}
use Rattle.placing.proofs.is_asked.Goals as goal

pub returns-then-a : goal.returns-then-a
unfolding is_asked
returns-then-a c = rw c.if-a.true (not-pick c.is_held.result ∙ ap (λ (x : Bool). pick x false true) c.is_held.ensures)

pub returns-else-a : goal.returns-else-a
unfolding is_asked
returns-else-a c = rw c.if-a.false refl
