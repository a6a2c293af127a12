-- `count_units` meets its contract: of a part that reaches past the update, what lies inside is counted.
use Prim.Native.Nat.{ℕ}
use mathlib.Core.Path.{sym, ap, ◌∙◌}
use mathlib.Core.List.{List}
use Rattle.text.specs.Utf8.{counted_in}
use Rattle.text.specs.declared.Counted.{Counted}
use Rattle.readings.specs.Sound.{bytes_in}
use Rattle.tokens.proofs.Parts.{part_slice}
use Rattle.numbering.proofs.Units.{units-none}
use Rattle.numbering.proofs.count_units.Goals as goal

pub returns-then-size-eq0 : goal.returns-then-size-eq0
returns-then-size-eq0 c = let a = c.args in
    units-none (bytes_in a.update.now a.part) (sym c.bytes_inside-size.ensures.0 ∙ c.if-size-eq0.true)

pub returns : goal.returns
returns c = let a = c.args in
    ap (λ (x : Counted). x.units) c.count_units-counted.ensures
    ∙ ap (λ (l : List ℕ). (counted_in l).units) (part_slice a.update.now a.part c.bytes_inside-size.result c.bytes_inside-size.ensures.0)
