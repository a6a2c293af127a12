-- Beside Groups: what inner functions say and proofs need. No promise comes to it.
use Rattle.std.specs.Prelude.{ℕ, ◌≡◌, List, [], ◌∷◌, ◌++◌}
use Rattle.readings.specs.Sound.{All}

-- ---- what is said of groups

-- the groups one after the other
unfoldable pub joined : {A : Type 0} → List (List A) → List A
joined [] = []
joined (g ∷ gs) = g ++ joined gs

-- some elements, all of one client
unfoldable pub Single : {A : Type 0} → (A → ℕ) → List A → Type 0
Single client [] = ⊥
Single {A} client (a ∷ g) = All (λ (b : A). client b ≡ client a) g

-- the client of each group: its first element's
unfoldable pub clients : {A : Type 0} → (A → ℕ) → List (List A) → List ℕ
clients client [] = []
clients client ([] ∷ gs) = clients client gs
clients client ((a ∷ g) ∷ gs) = client a ∷ clients client gs
