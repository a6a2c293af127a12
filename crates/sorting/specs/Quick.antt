-- The order that takes, at each step, the highest client whose front is ready. It is measured against Steps, where no order is preferred.
use Rattle.std.specs.Prelude.{ℕ, zero, suc, ◌+◌, ◌-◌, ◌≡◌, ◌⊎◌, Bool, true, false, List, [], ◌∷◌, ltb}
use Rattle.std.proofs.Math.Option.{Option, none, some}
use Rattle.numbers.specs.Number.{pick}
use Rattle.sorting.specs.Steps.{System, State, can, step}

abbrev pub Listed : ℕ → List ℕ → Type 0
Listed c [] = ⊥
Listed c (d ∷ ds) = (c ≡ d) ⊎ Listed c ds

abbrev pub on_choice : Option ℕ → (ℕ → List ℕ) → List ℕ
on_choice none go = []
on_choice (some c) go = c ∷ go c

abbrev pub higher : Bool → ℕ → Option ℕ → Option ℕ
higher false c o = o
higher true c none = some c
higher true c (some d) = some (pick (ltb d c) c d)

module _ {A : Type 0} (S : System A) where
  -- the steps that a choice makes, at most so many
  unfoldable pub chosen : (State A → Option ℕ) → ℕ → State A → List ℕ
  chosen choose zero s = []
  chosen choose (suc f) s = on_choice (choose s) (λ c. chosen choose f (step S s c))

  -- how many blocks of these clients are not taken
  unfoldable pub remaining : State A → List ℕ → ℕ
  remaining s [] = 0
  remaining s (c ∷ cs) = (S.size c - s.taken c) + remaining s cs

  -- the highest client of a list whose front may be taken
  unfoldable pub best : List ℕ → State A → Option ℕ
  best [] s = none
  best (c ∷ cs) s = higher (can S s c) c (best cs s)

  unfoldable pub quick : List ℕ → State A → List ℕ
  quick clients s = chosen (best clients) (suc (remaining s clients)) s
