-- The stages of a rule, one by one: none of a Skip, those of rule 28, and the own client's where the rule is 13.
use mathlib.Core.Path.{◌≡◌, refl}
use mathlib.Core.Logic.{◌≢◌}
use mathlib.Core.Bool.{Bool, true, false}
use mathlib.Core.List.{[]}
use Prim.Native.Nat.{ℕ, zero, suc, ◌≤◌, ◌<◌}
use native.Mathlib.Omega.{arith}
use lib.Dec.{eqb}
use lib.ListN.{length, get_or, get_or-eq_default}
use borrow.Author.Tests.{eq-eqb, ne_eqb}
use Rattle.numbers.specs.Number.{pick}
use Rattle.block.specs.declared.Block.{Block}
use Rattle.picker.specs.Waits.{no_dependency}
use Rattle.picker.specs.Rule28.{stages28}
use Rattle.picker.specs.Rule13.{own, stages13}
use Rattle.picker.specs.Stages.{stages, stage_count, stage_at}

-- ---- how many there are

pub count_most : (rule : ℕ) → stage_count rule ≤ 4
unfolding stage_count
count_most rule = go (eqb rule 13)
  where
    go : (x : Bool) → pick x 4 3 ≤ 4
    go true = omega arith
    go false = omega arith

pub count-13 : (rule : ℕ) → rule ≡ 13 → stage_count rule ≡ 4
unfolding stage_count
count-13 rule e = rw (eq-eqb rule 13 e) refl

pub count-28 : (rule : ℕ) → rule ≢ 13 → stage_count rule ≡ 3
unfolding stage_count
count-28 rule ne = rw (ne_eqb rule 13 ne) refl

three : (b : Block) → length (stages28 b) ≡ 3
unfolding stages28
three b = refl

pub no-fourth : (b : Block) (k : ℕ) → 3 ≤ k → get_or (stages28 b) k no_dependency ≡ no_dependency
no-fourth b k h = get_or-eq_default (stages28 b) no_dependency {n = k} (omega (arith, three b))

four : (b : Block) → length (stages13 b) ≡ 4
unfolding stages13 stages28
four b = refl

pub stages-most : (rule : ℕ) (b : Block) → length (stages rule b) ≤ stage_count rule
unfolding stages stage_count
stages-most rule b = go (eqb b.kind 2) (eqb rule 13)
  where
    go : (x y : Bool) → length (pick x [] (pick y (stages13 b) (stages28 b))) ≤ pick y 4 3
    go true true = omega arith
    go true false = omega arith
    go false true = omega (arith, four b)
    go false false = omega (arith, three b)

-- ---- stage k

module _ (rule : ℕ) (b : Block) (k : ℕ) where
  pub skip-none : b.kind ≡ 2 → stage_at rule b k ≡ no_dependency
  unfolding stage_at stages
  skip-none e = rw (eq-eqb b.kind 2 e) refl

  pub past-none : stage_count rule ≤ k → stage_at rule b k ≡ no_dependency
  unfolding stage_at
  past-none h = get_or-eq_default (stages rule b) no_dependency {n = k} (omega (arith, stages-most rule b))

  module _ (item : b.kind ≢ 2) where
    pub stage-28 : k < 3 → stage_at rule b k ≡ get_or (stages28 b) k no_dependency
    unfolding stage_at stages stages13 stages28
    stage-28 h = rw (ne_eqb b.kind 2 item) (go (eqb rule 13) k h)
      where
        go : (x : Bool) (k : ℕ) → k < 3 → get_or (pick x (stages13 b) (stages28 b)) k no_dependency ≡ get_or (stages28 b) k no_dependency
        go false k h = refl
        go true zero h = refl
        go true (suc zero) h = refl
        go true (suc (suc zero)) h = refl
        go true (suc (suc (suc k))) h = absurd (omega arith)

    pub stage-own : rule ≡ 13 → k ≡ 3 → stage_at rule b k ≡ own b
    unfolding stage_at stages stages13 stages28
    stage-own e h = rw (ne_eqb b.kind 2 item, eq-eqb rule 13 e, h) refl
