-- Rule 28 in the paper's words: which blocks are ready, and what is reported of one that is not.
use mathlib.Core.Path.{◌≡◌}
use mathlib.Core.List.{List}
use mathlib.Core.Logic.{◌⊎◌, ◌≢◌, ◌↔◌}
use mathlib.Core.Option.{some}
use Prim.Native.Nat.{ℕ, ◌≤◌, ◌<◌}
use native.Mathlib.Omega.{arith}
use lib.Dec.{T}
use borrow.Author.Tests.{ltb-true, ltb-false}
use Rattle.block.specs.declared.Id.{Id}
use Rattle.block.specs.declared.Block.{Block}
use Rattle.readings.specs.Sound.{All}
use Rattle.sorting.specs.Steps.{State}
use Rattle.sorting.specs.Rules.{deps, others, waits, free, report, below, by_reaches}
use Rattle.sorting.specs.Rule28.{asks28}
use Rattle.sorting.specs.Rule28Inner.{rule28}
use Rattle.sorting.proofs.Rules.{unmet-is, report-waits, others-are, others-free}

-- what is waited for is another client's, and its clock is not below that client's reach
pub waits-28 : (reach : ℕ → ℕ) (c : ℕ) (b : Block) (d : Id) → waits rule28 reach c b ≡ some d → (d.client ≢ c) × (reach d.client ≤ d.clock)
unfolding waits by_reaches asks28
waits-28 reach c b d p =
    let w = unmet-is (λ (e : Id). e.client ≢ c) (below reach) (others c (deps b)) d (others-are c (deps b)) p in
    (w.0, ltb-false d.clock (reach d.client) w.1)

pub reported-28 : (q : ℕ → List Block) (s : State ℕ) (c : ℕ) (d : Id) → report rule28 q s c ≡ some d → (d.client ≢ c) × (s.known d.client ≤ d.clock)
reported-28 q s c d p = waits-28 s.known c _ d (report-waits rule28 q s c d p)

-- ---- which blocks are ready

-- met, for a block of client c: of its own client, or below the reach
abbrev pub Met : (ℕ → ℕ) → ℕ → Id → Type 0
Met reach c d = (d.client ≡ c) ⊎ (d.clock < reach d.client)

module _ (reach : ℕ → ℕ) (c : ℕ) where
  -- a block is ready exactly when each dependency on another client lies below that client's reach
  pub ready-28 : (b : Block) → T (free (waits rule28 reach c b)) ↔ All (Met reach c) (deps b)
  unfolding waits by_reaches asks28
  ready-28 b = others-free (below reach) (λ (d : Id). d.clock < reach d.client) (λ d e. ltb-true d.clock (reach d.client) e)
      (λ d e h. let g = ltb-false d.clock (reach d.client) e in omega arith) c (deps b)
