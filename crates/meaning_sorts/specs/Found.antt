-- Blocks sorted by a rule, quickly or slowly, and what is reported of that.
use Rattle.std.specs.Prelude.{ℕ, List}
use Rattle.block.specs.declared.Block.{Block}
use Rattle.sorting.specs.Steps.{System, State, start, after}
use Rattle.sorting.specs.Rules.{Rule}
use Rattle.sorting.specs.Sorted.{steps, numbers_by, counts_in, pending_in}

-- a sorter says which steps it makes, of these clients
abbrev pub Sorter : Type 0 → Type 0
Sorter A = System A → List ℕ → State A → List ℕ

-- what is reported of its steps, and where they end
pub record Found (A : Type 0) : Type 0 where
  pub order : List ℕ
  pub counts : List ℕ
  pub pending : List ℕ
  pub end : State A

-- blocks sorted by a rule, from what is known at first
unfoldable pub found : {A : Type 0} → Sorter A → Rule A → List Block → List ℕ → (A → ℕ) → Found A
found sorter R bs cs κ =
    let run = sorter (steps R bs) cs (start κ) in
    let end = after (steps R bs) (start κ) run in
    record { order = numbers_by R bs (start κ) run; counts = counts_in bs end cs; pending = pending_in R bs end cs; end = end }
