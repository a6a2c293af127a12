-- `deletes::base` meets its contract, by the form.
use mathlib.Core.Path.{refl}
use borrow.Author.Tests.{eq-eqb, ne_eqb}
use Rattle.deletes.proofs.base.Goals as goal

pub returns-then-form-eq1 : goal.returns-then-form-eq1
returns-then-form-eq1 c = rw (eq-eqb _ 1 c.if-form-eq1.true) refl

pub returns : goal.returns
returns c = rw (ne_eqb _ 1 c.if-form-eq1.false) refl
