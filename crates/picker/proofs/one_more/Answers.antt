-- `picker::one_more` meets its contract, below the brim and at it.
use mathlib.Core.Path.{refl}
use native.Mathlib.Numerals.{add-one}
use borrow.Author.Tests.{lt-ltb, le-ltb}
use Rattle.parts.specs.Brim.{brim}
use Rattle.picker.specs.Picker.{one_more}
use Rattle.picker.proofs.one_more.Goals as goal

pub returns-then-n-lt-BRIM : goal.returns-then-n-lt-BRIM
unfolding one_more
returns-then-n-lt-BRIM c = rw (lt-ltb c.args.n brim c.if-n-lt-BRIM.true, add-one) refl

pub returns : goal.returns
unfolding one_more
returns c = rw (le-ltb c.args.n brim c.if-n-lt-BRIM.false) refl
