-- The slow plain order (W-211): a sweep goes over all clients, lowest first, and takes each one's fronts while they are ready; sweeps follow each
-- other until one takes nothing. It is measured against Steps, where no order is preferred.
use Rattle.std.specs.Prelude.{ℕ, zero, suc, ◌-◌, List, [], ◌∷◌, ◌++◌}
use Rattle.numbers.specs.Number.{pick}
use Rattle.block.specs.declared.Block.{Block}
use Rattle.vector.specs.Vector.{Entry}
use Rattle.kept.specs.Kept.{remote}
use Rattle.sorting.specs.Steps.{System, State, start, can, step, after}
use Rattle.sorting.specs.Rules.{Rule}
use Rattle.sorting.specs.Quick.{remaining}
use Rattle.sorting.specs.Sorted.{all_clients, steps, numbers_by, counts_in, reaches_in, pending_in}

-- clients are listed highest first
unfoldable pub lowest_first : List ℕ → List ℕ
lowest_first [] = []
lowest_first (c ∷ cs) = lowest_first cs ++ (c ∷ [])

-- on with these steps, if they are any
abbrev pub again : List ℕ → (List ℕ → List ℕ) → List ℕ
again [] go = []
again (c ∷ cs) go = (c ∷ cs) ++ go (c ∷ cs)

module _ {A : Type 0} (S : System A) where
  -- the fronts of c while they are ready, at most so many
  unfoldable pub fronts : ℕ → State A → ℕ → List ℕ
  fronts zero s c = []
  fronts (suc k) s c = pick (can S s c) (c ∷ fronts k (step S s c) c) []

  -- at most as many as are left
  unfoldable pub drain : State A → ℕ → List ℕ
  drain s c = fronts (S.size c - s.taken c) s c

  -- client after client
  unfoldable pub sweep : State A → List ℕ → List ℕ
  sweep s [] = []
  sweep s (c ∷ cs) = drain s c ++ sweep (after S s (drain s c)) cs

  -- until a sweep takes nothing, at most so many sweeps
  unfoldable pub sweeps : ℕ → List ℕ → State A → List ℕ
  sweeps zero cs s = []
  sweeps (suc k) cs s = again (sweep s cs) (λ taken. sweeps k cs (after S s taken))

  -- a sweep that takes something takes a block
  unfoldable pub slow : List ℕ → State A → List ℕ
  slow clients s = sweeps (suc (remaining S s clients)) (lowest_first clients) s

-- ---- the blocks of an update, sorted slowly by a rule

-- the client of each step
unfoldable pub slow_steps : {A : Type 0} → Rule A → List Block → List ℕ → (A → ℕ) → List ℕ
slow_steps R bs cs κ = slow (steps R bs) cs (start κ)

unfoldable pub slow_outcome : {A : Type 0} → Rule A → List Block → List ℕ → (A → ℕ) → State A
slow_outcome R bs cs κ = after (steps R bs) (start κ) (slow_steps R bs cs κ)

-- ---- against a state vector, by a rule by reaches

abbrev pub slow_outcome_of : Rule ℕ → List Block → List Entry → State ℕ
slow_outcome_of R bs v = slow_outcome R bs (all_clients bs v) (remote v)

unfoldable pub slow_order_of : Rule ℕ → List Block → List Entry → List ℕ
slow_order_of R bs v = numbers_by R bs (start (remote v)) (slow_steps R bs (all_clients bs v) (remote v))

unfoldable pub slow_counts_of : Rule ℕ → List Block → List Entry → List ℕ
slow_counts_of R bs v = counts_in bs (slow_outcome_of R bs v) (all_clients bs v)

unfoldable pub slow_reaches_of : Rule ℕ → List Block → List Entry → List ℕ
slow_reaches_of R bs v = reaches_in (slow_outcome_of R bs v) (all_clients bs v)

unfoldable pub slow_pending_of : Rule ℕ → List Block → List Entry → List ℕ
slow_pending_of R bs v = pending_in R bs (slow_outcome_of R bs v) (all_clients bs v)
