-- `picker::begin` of fronts meets its contract: no blocks, or some.
use mathlib.Core.Path.{refl}
use borrow.Author.Tests.{eq-eqb, ne_eqb}
use Rattle.picker.specs.Fronts.{fresh}
use Rattle.picker.proofs.fronts.begin.Goals as goal

pub returns-then-count-eq0 : goal.returns-then-count-eq0
unfolding fresh
returns-then-count-eq0 c = rw (eq-eqb c.args.count 0 c.if-count-eq0.true) c.none.ensures

pub returns : goal.returns
unfolding fresh
returns c = rw (ne_eqb c.args.count 0 c.if-count-eq0.false) refl
