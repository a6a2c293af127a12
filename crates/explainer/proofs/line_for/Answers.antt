-- `explainer::line_for` meets its contract: a number, a line.
use mathlib.Core.Path.{refl}
use native.Mathlib.Omega.{arith}
use Rattle.std.proofs.lemmas.Grind.{common_steps}
use Rattle.explainer.specs.Following.{line_for}
use Rattle.explainer.proofs.line_for.Goals as goal

pub returns-in-1 : goal.returns-in-1
unfolding line_for
returns-in-1 c = rw c.in-1.is refl

pub returns-in-2 : goal.returns-in-2
unfolding line_for
returns-in-2 c = rw c.in-2.is refl

pub returns-in-3 : goal.returns-in-3
unfolding line_for
returns-in-3 c = rw c.in-3.is refl

pub returns-in-4 : goal.returns-in-4
unfolding line_for
returns-in-4 c = rw c.in-4.is refl

pub returns-in-6 : goal.returns-in-6
unfolding line_for
returns-in-6 c = rw c.in-6.is refl

pub returns-in_default : goal.returns-in_default
unfolding line_for
returns-in_default c = grind (arith, common_steps)
