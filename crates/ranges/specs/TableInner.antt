-- Beside Table: what inner functions say and proofs need. No promise comes to it.
use Rattle.std.specs.Prelude.{List, [], ◌∷◌, ◌++◌, ℕ, zero, suc, ◌+◌, ◌-◌, ◌*◌, ◌≤◌, ◌<◌, length, get_or, set, replicate}
use Rattle.numbers.specs.Limits.{max_clock, max_value}
use Rattle.ranges.specs.Ranges.{Range, normal}
use Rattle.ranges.specs.Table.{flat, range}

unfoldable pub row : List ℕ → ℕ → Range
row s i = range (get_or s (3 * i) 0) (get_or s (3 * i + 1) 0) (get_or s (3 * i + 2) 0)

unfoldable pub put : List ℕ → ℕ → Range → List ℕ
put s i r = set (set (set s (3 * i) r.client) (3 * i + 1) r.clock) (3 * i + 2) r.len

-- n rows from row i on
unfoldable pub rows_from : List ℕ → ℕ → ℕ → List Range
rows_from s i zero = []
rows_from s i (suc n) = row s i ∷ rows_from s (suc i) n

-- not empty, and within the limits
pub record Fine (r : Range) : Type 0 where
  pub some : 0 < r.len
  pub end : r.clock + r.len ≤ max_clock
  pub client : r.client ≤ max_value

unfoldable pub AllFine : List ℕ → ℕ → Type 0
AllFine s n = (i : ℕ) → i < n → Fine (row s i)

-- the first n rows in normal form: how many they are then, and the words, with zeros after them
unfoldable pub normal_count : List ℕ → ℕ → ℕ
normal_count s n = length (normal (rows_from s 0 n))

unfoldable pub normalized : List ℕ → ℕ → List ℕ
normalized s n = flat (normal (rows_from s 0 n)) ++ replicate (length s - 3 * normal_count s n) 0
