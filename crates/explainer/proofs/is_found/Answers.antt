-- `explainer::is_found` meets its contract: none ahead, and it is kept.
use mathlib.Core.Path.{refl}
use borrow.Author.Tests.{ne_eqb}
use Rattle.explainer.specs.Following.{is_found}
use Rattle.explainer.proofs.is_found.Goals as goal

pub returns-then-ahead-ne0 : goal.returns-then-ahead-ne0
unfolding is_found
returns-then-ahead-ne0 c = rw (ne_eqb _ 0 c.if-ahead-ne0.true) refl

pub returns : goal.returns
unfolding is_found
returns c = rw c.if-ahead-ne0.false c.is_kept.ensures
