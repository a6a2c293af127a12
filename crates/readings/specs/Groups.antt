-- A list in groups: neighbours of one client together. Of an update's blocks, and of delete ranges in normal form, a client has one group.
use Rattle.std.specs.Prelude.{ℕ, ◌≢◌, List, [], ◌∷◌, eqb}
use Rattle.numbers.specs.Number.{pick}
use Rattle.readings.specs.Sound.{All}

-- a joins the first group, if that is its client's
unfoldable pub join : {A : Type 0} → (A → ℕ) → A → List (List A) → List (List A)
join client a [] = (a ∷ []) ∷ []
join client a ([] ∷ gs) = (a ∷ []) ∷ gs
join client a ((b ∷ g) ∷ gs) = pick (eqb (client a) (client b)) ((a ∷ (b ∷ g)) ∷ gs) ((a ∷ []) ∷ ((b ∷ g) ∷ gs))

unfoldable pub groups : {A : Type 0} → (A → ℕ) → List A → List (List A)
groups client [] = []
groups client (a ∷ rest) = join client a (groups client rest)

-- ---- what is said of groups

-- each differs from all later ones
unfoldable pub Distinct : List ℕ → Type 0
Distinct [] = Unit {0}
Distinct (c ∷ cs) = All (λ (d : ℕ). d ≢ c) cs × Distinct cs
