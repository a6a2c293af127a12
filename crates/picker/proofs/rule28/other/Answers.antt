-- `picker::rule28::other` meets its contract: a dependency that is there, of the own client or another, and one that is not.
use mathlib.Core.Path.{◌≡◌, refl}
use mathlib.Core.Bool.{Bool, true, false, not}
use lib.Dec.{eqb}
use Rattle.numbers.specs.Number.{pick}
use Rattle.picker.specs.Rule28.{other}
use Rattle.picker.proofs.rule28.other.Goals as goal

on : (x : Bool) → not x ≡ pick x false true
on true = refl
on false = refl

off : (x : Bool) → false ≡ pick x false false
off true = refl
off false = refl

pub returns-then-there : goal.returns-then-there
unfolding other
returns-then-there c = let a = c.args in rw (c.if-there.true, on (eqb a.id.client a.client)) refl

pub returns-else-there : goal.returns-else-there
unfolding other
returns-else-there c = let a = c.args in rw (c.if-there.false, ← off (eqb a.id.client a.client)) refl
