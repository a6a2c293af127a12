-- The stages of a rule, by its number: they ask for what the rule asks for, as many as it has, none of a Skip, each with a clock within the limit.
use mathlib.Core.Path.{◌≡◌, refl, subst}
use mathlib.Core.Bool.{Bool, true, false}
use mathlib.Core.List.{List, [], ◌∷◌}
use Prim.Native.Nat.{ℕ, zero, suc, ◌≤◌}
use native.Mathlib.Omega.{arith}
use lib.Dec.{eqb}
use lib.ListN.{length, get_or}
use Rattle.numbers.specs.Number.{pick}
use Rattle.numbers.specs.Limits.{max_clock}
use Rattle.block.specs.declared.Id.{Id}
use Rattle.block.specs.declared.Block.{Block}
use Rattle.readings.specs.Sound.{All}
use Rattle.picker.specs.declared.stages.Dependency.{Dependency}
use Rattle.picker.specs.Waits.{dep, no_dependency}
use Rattle.picker.specs.Rule28.{stages28}
use Rattle.picker.specs.Rule13.{stages13}
use Rattle.picker.specs.Stages.{stages, stage_count}
use Rattle.sorting.specs.Rules.{is_skip}
use Rattle.sorting.specs.Rule28.{asks28}
use Rattle.sorting.specs.Rule13.{asks13}
use Rattle.sorting.specs.Named.{asks_of}
use Rattle.outcome.proofs.Asked.{ids_in, Clocks, Low}
use Rattle.outcome.proofs.Rule28.{ids-28, low-28}
use Rattle.outcome.proofs.Rule13.{ids-13, low-13}

module _ (rule : ℕ) (b : Block) where
  pub stages-ask : is_skip b ≡ false → ids_in (stages rule b) ≡ asks_of rule b.client b
  unfolding stages asks_of
  stages-ask s = rw s (go (eqb rule 13))
    where
      go : (x : Bool) → ids_in (pick x (stages13 b) (stages28 b)) ≡ pick x (asks13 b.client b) (asks28 b.client b)
      go true = ids-13 b
      go false = ids-28 b

  pub stages-many : is_skip b ≡ false → length (stages rule b) ≡ stage_count rule
  unfolding stages stage_count stages13 stages28
  stages-many s = rw s (go (eqb rule 13))
    where
      go : (x : Bool) → length (pick x (stages13 b) (stages28 b)) ≡ pick x 4 3
      go true = refl
      go false = refl

  pub stages-none : is_skip b ≡ true → stages rule b ≡ []
  unfolding stages
  stages-none s = rw s

  stages-low : Clocks b → All Low (stages rule b)
  unfolding stages
  stages-low h = go (is_skip b) (eqb rule 13)
    where
      go : (x y : Bool) → All Low (pick x [] (pick y (stages13 b) (stages28 b)))
      go true y = tt
      go false true = low-13 b h
      go false false = low-28 b h

low-at : (ds : List Dependency) (k : ℕ) → All Low ds → (get_or ds k no_dependency).id.clock ≤ max_clock
low-at [] k all = omega arith
low-at (a ∷ ds) zero all = all.0
low-at (a ∷ ds) (suc k) all = low-at ds k all.1

pub stage-clock : (rule : ℕ) (b : Block) (k : ℕ) (d : Id) → Clocks b → get_or (stages rule b) k no_dependency ≡ dep true d → d.clock ≤ max_clock
stage-clock rule b k d h e = subst (λ (a : Dependency). a.id.clock ≤ max_clock) e (low-at (stages rule b) k (stages-low rule b h))
