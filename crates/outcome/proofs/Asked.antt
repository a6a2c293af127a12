-- Stages as ids: those that are there.
use mathlib.Core.Path.{◌≡◌, refl, ap}
use mathlib.Core.Bool.{Bool, true, false}
use mathlib.Core.List.{List, [], ◌∷◌, ◌++◌}
use Prim.Native.Nat.{◌≤◌}
use Rattle.numbers.specs.Number.{pick}
use Rattle.numbers.specs.Limits.{max_clock}
use Rattle.block.specs.declared.Id.{Id}
use Rattle.block.specs.declared.Block.{Block}
use Rattle.picker.specs.declared.stages.Dependency.{Dependency}

unfoldable pub ids_in : List Dependency → List Id
ids_in [] = []
ids_in (a ∷ rest) = pick a.there (a.id ∷ ids_in rest) (ids_in rest)

pub ids-append : (ds es : List Dependency) → ids_in (ds ++ es) ≡ ids_in ds ++ ids_in es
unfolding ids_in
ids-append [] es = refl
ids-append (a ∷ ds) es = go a.there (ids-append ds es)
  where
    go : (x : Bool) → ids_in (ds ++ es) ≡ ids_in ds ++ ids_in es
        → pick x (a.id ∷ ids_in (ds ++ es)) (ids_in (ds ++ es)) ≡ pick x (a.id ∷ ids_in ds) (ids_in ds) ++ ids_in es
    go true rec = ap (λ (l : List Id). a.id ∷ l) rec
    go false rec = rec

-- a block's clock and its ids' are within the limit
abbrev pub Clocks : Block → Type 0
Clocks b = (b.clock ≤ max_clock) × (b.left_clock ≤ max_clock) × (b.right_clock ≤ max_clock) × (b.parent_clock ≤ max_clock)

abbrev pub Low : Dependency → Type 0
Low a = a.id.clock ≤ max_clock
