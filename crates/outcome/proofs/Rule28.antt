-- The stages of rule 28 ask for what the rule asks for.
use mathlib.Core.Path.{◌≡◌, refl}
use mathlib.Core.Bool.{Bool, true, false}
use mathlib.Core.List.{List, [], ◌∷◌}
use Prim.Native.Nat.{ℕ}
use lib.Dec.{eqb}
use Rattle.numbers.specs.Number.{pick}
use Rattle.block.specs.declared.Id.{Id}
use Rattle.block.specs.declared.Block.{Block}
use Rattle.block.specs.Row.{left_id, right_id, parent_id}
use Rattle.readings.specs.Sound.{All}
use Rattle.picker.specs.declared.stages.Dependency.{Dependency}
use Rattle.picker.specs.Rule28.{other, stages28}
use Rattle.sorting.specs.Rules.{also, deps, others}
use Rattle.sorting.specs.Rule28.{asks28}
use Rattle.outcome.proofs.Asked.{ids_in, Clocks, Low}

ids-other : (c : ℕ) (there : Bool) (d : Id) (rest : List Dependency) (ds : List Id) → ids_in rest ≡ others c ds
    → ids_in (other c there d ∷ rest) ≡ others c (also there d ds)
unfolding ids_in other others
ids-other c true d rest ds e = go (eqb d.client c)
  where
    go : (x : Bool) → pick (pick x false true) (d ∷ ids_in rest) (ids_in rest) ≡ pick x (others c ds) (d ∷ others c ds)
    go true = e
    go false = rw e
ids-other c false d rest ds e = go (eqb d.client c)
  where
    go : (x : Bool) → pick (pick x false false) (d ∷ ids_in rest) (ids_in rest) ≡ others c ds
    go true = e
    go false = e

ids-none : (c : ℕ) → ids_in [] ≡ others c []
unfolding ids_in others
ids-none c = refl

pub ids-28 : (b : Block) → ids_in (stages28 b) ≡ asks28 b.client b
unfolding stages28 asks28 deps
ids-28 b =
    let c = b.client in
    ids-other c b.has_left (left_id b) _ _ (ids-other c b.has_right (right_id b) _ _ (ids-other c b.has_parent (parent_id b) [] [] (ids-none c)))

pub low-28 : (b : Block) → Clocks b → All Low (stages28 b)
unfolding stages28 other
low-28 b h = (h.1, (h.2, (h.3, tt)))
