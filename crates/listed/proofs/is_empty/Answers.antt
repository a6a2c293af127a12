-- `listed::is_empty` meets its contract: the constant of the form, if it has one.
use mathlib.Core.Path.{◌∙◌}
use native.Mathlib.Omega.{arith}
use Rattle.listed.proofs.Laws.{empty-first, empty-second, empty-no-form}
use Rattle.listed.proofs.is_empty.Goals as goal

pub returns-in-1 : goal.returns-in-1
returns-in-1 c = let a = c.args in c.eq.ensures ∙ empty-first a.form a.update.now c.in-1.is

pub returns-in-2 : goal.returns-in-2
returns-in-2 c = let a = c.args in c.eq-in-2.ensures ∙ empty-second a.form a.update.now c.in-2.is

pub returns-in_default : goal.returns-in_default
returns-in_default c = let a = c.args in empty-no-form a.form a.update.now (λ e. omega arith) (λ e. omega arith)
