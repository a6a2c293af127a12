-- What opening form 2 leaves in the words.
use Rattle.std.specs.Prelude.{Option, Some, None}
use Rattle.std.specs.Prelude.{ℕ, ◌≡◌, List}
use Rattle.grammar.specs.Course as course
use Rattle.decoder.specs.States.{State}
use Rattle.decoder.specs.Opening.{opened_of}
use Rattle.cells.specs.Cells.{cell, state_in, why_in, Small, Elsewhere}

-- column k is cut: it stands from a place to its end
pub record Cut (k from to : ℕ) (w v : List ℕ) : Type 0 where
  pub small : Small v
  pub elsewhere : Elsewhere k w v
  pub begins : (cell v k 0 ≡ from) × (cell v k 1 ≡ from)
  pub ends : cell v k 4 ≡ to
  pub rest : (cell v k 2 ≡ 0) × (cell v k 3 ≡ 0) × (cell v k 5 ≡ 2147483648) × (cell v k 6 ≡ 0)

-- form 2 opened
unfoldable pub opened_in : List ℕ → Option ℕ → course.Drawn State (Unit {0})
opened_in v (Some n) = course.got tt (state_in v)
opened_in v None = course.not (why_in v)

abbrev pub Opened : List ℕ → List ℕ → Option ℕ → Type 0
Opened u v r = Small v × (opened_in v r ≡ opened_of u)
