-- Beside Vector: what inner functions say and proofs need. No promise comes to it.
use Rattle.std.specs.Prelude.{ℕ, ◌≤◌, ◌≡◌, List, [], ◌∷◌, map, length, take, Result, Ok, Err}
use Rattle.numbers.specs.declared.Refusal.{Refusal}
use Rattle.numbers.specs.Limits.{max_clients}
use Rattle.grammar.specs.Course.{Course, things, ending}
use Rattle.vector.specs.Vector.{Entry, clients_in, vector_of}

abbrev pub clocks_in : List Entry → List ℕ
clocks_in es = map (λ (e : Entry). e.clock) es

-- ---- what is read of it: all entries or none

unfoldable pub entries_of : Course Entry → Result ℕ Refusal
entries_of c = ending c (λ s. Ok (length (things c))) (λ why. Err why)

unfoldable pub kept : Course Entry → List Entry
kept c = ending c (λ s. things c) (λ why. [])

abbrev pub count_in : Result ℕ Refusal → ℕ
count_in (Ok n) = n
count_in (Err why) = 0

-- read into words for clients and clocks, which are now xs and ys
pub record Filled (v : List ℕ) (r : Result ℕ Refusal) (xs ys : List ℕ) : Type 0 where
  pub answer : r ≡ entries_of (vector_of v)
  pub few : count_in r ≤ max_clients
  pub clients : take (count_in r) xs ≡ clients_in (kept (vector_of v))
  pub clocks : take (count_in r) ys ≡ clocks_in (kept (vector_of v))

-- ---- two words an entry, into so many

-- the same of clients and clocks apart
unfoldable pub joined : List ℕ → List ℕ → List ℕ
joined [] ys = []
joined (x ∷ xs) [] = []
joined (x ∷ xs) (y ∷ ys) = x ∷ (y ∷ joined xs ys)
