-- What is reported of an update's blocks, sorted by a rule: from what is known at first, and from a state vector.
use Rattle.std.specs.Prelude.{ℕ, suc, List, [], ◌∷◌, map, ltb, eqb, length, get_or}
use Rattle.std.proofs.Math.Option.{Option, none, some}
use Rattle.numbers.specs.Number.{pick}
use Rattle.block.specs.declared.Id.{Id}
use Rattle.block.specs.declared.Block.{Block}
use Rattle.vector.specs.Vector.{Entry, clients_in}
use Rattle.kept.specs.Kept.{remote}
use Rattle.readings.specs.Sound.{owner}
use Rattle.sorting.specs.Steps.{System, State, start, step, after, Run}
use Rattle.sorting.specs.Rules.{queue, Rule, system, report}
use Rattle.sorting.specs.Quick.{Listed, quick}

-- ---- the clients that are reported: those with blocks and the vector's, highest first

unfoldable pub insert : ℕ → List ℕ → List ℕ
insert c [] = c ∷ []
insert c (d ∷ ds) = pick (ltb c d) (d ∷ insert c ds) (pick (eqb c d) (d ∷ ds) (c ∷ (d ∷ ds)))

-- each of these more
unfoldable pub insert_all : List ℕ → List ℕ → List ℕ
insert_all [] ds = ds
insert_all (c ∷ cs) ds = insert_all cs (insert c ds)

unfoldable pub all_clients : List Block → List Entry → List ℕ
all_clients bs v = insert_all (clients_in v) (insert_all (map owner bs) [])

-- ---- the steps from what is known at first, of these clients, and where they end

abbrev pub steps : {A : Type 0} → Rule A → List Block → System A
steps R bs = system R (queue bs)

-- the client of each step
unfoldable pub order : {A : Type 0} → Rule A → List Block → List ℕ → (A → ℕ) → List ℕ
order R bs cs κ = quick (steps R bs) cs (start κ)

unfoldable pub outcome : {A : Type 0} → Rule A → List Block → List ℕ → (A → ℕ) → State A
outcome R bs cs κ = after (steps R bs) (start κ) (order R bs cs κ)

-- the numbers of a client's blocks, the first block of all having the number n
unfoldable pub block_numbers_from : ℕ → List Block → ℕ → List ℕ
block_numbers_from n [] c = []
block_numbers_from n (b ∷ bs) c = pick (eqb b.client c) (n ∷ block_numbers_from (suc n) bs c) (block_numbers_from (suc n) bs c)

-- the number of the block that each step takes
unfoldable pub numbers_by : {A : Type 0} → Rule A → List Block → State A → List ℕ → List ℕ
numbers_by R bs s [] = []
numbers_by R bs s (c ∷ cs) = get_or (block_numbers_from 0 bs c) (s.taken c) 0 ∷ numbers_by R bs (step (steps R bs) s c) cs

-- an allowed order, carried to its end or not, takes the block of number n
pub record Taking {A : Type 0} (R : Rule A) (bs : List Block) (κ : A → ℕ) (n : ℕ) : Type 0 where
  pub by : List ℕ
  pub run : Run (steps R bs) (start κ) by
  pub takes : Listed n (numbers_by R bs (start κ) by)

-- ---- the reports on a state, of these clients: two words each, three of a client that waits

-- how many blocks were taken of each client that has blocks, 0 too
unfoldable pub counts_in : {A : Type 0} → List Block → State A → List ℕ → List ℕ
counts_in bs s [] = []
counts_in bs s (c ∷ cs) = pick (ltb 0 (length (queue bs c))) (c ∷ (s.taken c ∷ counts_in bs s cs)) (counts_in bs s cs)

unfoldable pub reaches_in : State ℕ → List ℕ → List ℕ
reaches_in s [] = []
reaches_in s (c ∷ cs) = c ∷ (s.known c ∷ reaches_in s cs)

-- the client of the first id that is not met, and what the rule says of it
abbrev pub waiting : (Id → ℕ) → ℕ → Option Id → List ℕ → List ℕ
waiting says c none rest = rest
waiting says c (some d) rest = c ∷ (d.client ∷ (says d ∷ rest))

unfoldable pub pending_in : {A : Type 0} → Rule A → List Block → State A → List ℕ → List ℕ
pending_in R bs s [] = []
pending_in R bs s (c ∷ cs) = waiting (R.says s.known) c (report R (queue bs) s c) (pending_in R bs s cs)

-- ---- sorted against a state vector, by a rule by reaches

-- where its steps end
abbrev pub outcome_of : Rule ℕ → List Block → List Entry → State ℕ
outcome_of R bs v = outcome R bs (all_clients bs v) (remote v)

unfoldable pub order_of : Rule ℕ → List Block → List Entry → List ℕ
order_of R bs v = numbers_by R bs (start (remote v)) (order R bs (all_clients bs v) (remote v))

unfoldable pub counts_of : Rule ℕ → List Block → List Entry → List ℕ
counts_of R bs v = counts_in bs (outcome_of R bs v) (all_clients bs v)

unfoldable pub reaches_of : Rule ℕ → List Block → List Entry → List ℕ
reaches_of R bs v = reaches_in (outcome_of R bs v) (all_clients bs v)

unfoldable pub pending_of : Rule ℕ → List Block → List Entry → List ℕ
pending_of R bs v = pending_in R bs (outcome_of R bs v) (all_clients bs v)
