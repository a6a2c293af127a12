-- The stages of rule 13 ask for what the rule asks for: what rule 28 does, and then the id before the block.
use mathlib.Core.Path.{◌≡◌, refl, ◌∙◌}
use mathlib.Core.List.{List, [], ◌∷◌, ◌++◌}
use Prim.Native.Nat.{ℕ, zero, suc, ◌-◌}
use native.Mathlib.Omega.{arith}
use lib.Dec.{ltb}
use borrow.Author.Tests.{lt-ltb}
use Rattle.numbers.specs.Number.{pick}
use Rattle.block.specs.declared.Block.{Block}
use Rattle.readings.specs.Sound.{All}
use Rattle.picker.specs.declared.stages.Dependency.{Dependency}
use Rattle.picker.specs.Rule28.{stages28}
use Rattle.picker.specs.Rule13.{own, stages13}
use Rattle.sorting.specs.Rule28.{asks28}
use Rattle.sorting.specs.Rule13.{id_before, asks13}
use Rattle.outcome.proofs.Asked.{ids_in, ids-append, Clocks, Low}
use Rattle.outcome.proofs.Rule28.{ids-28, low-28}

ids-own : (b : Block) → ids_in (own b ∷ []) ≡ id_before b.client b.clock
unfolding ids_in own id_before
ids-own b = go b.clock
  where
    go : (k : ℕ) → pick (ltb 0 k) (record { client = b.client; clock = k - 1 } ∷ []) [] ≡ id_before b.client k
    go zero = refl
    go (suc k) = let e : suc k - 1 ≡ k = omega arith in rw (lt-ltb 0 (suc k) (omega arith), e) refl

pub ids-13 : (b : Block) → ids_in (stages13 b) ≡ asks13 b.client b
unfolding stages13 asks13 asks28
ids-13 b = ids-append (stages28 b) (own b ∷ []) ∙ (λ i. ids-28 b i ++ ids-own b i)

all_more : (P : Dependency → Type 0) (ds : List Dependency) (a : Dependency) → All P ds → P a → All P (ds ++ (a ∷ []))
all_more P [] a all p = (p, tt)
all_more P (d ∷ ds) a all p = (all.0, all_more P ds a all.1 p)

pub low-13 : (b : Block) → Clocks b → All Low (stages13 b)
unfolding stages13 own
low-13 b h = all_more Low (stages28 b) (own b) (low-28 b h) (omega (arith, h.0))
