-- Beside Leftover: what inner functions say and proofs need. No promise comes to it.
use Rattle.std.specs.Prelude.{ℕ, ◌≤◌, ◌<◌, ◌⊎◌, List, [], ◌∷◌}
use Rattle.leftover.specs.Leftover.{Stretch}

-- ---- in words

-- byte p is one of these
unfoldable pub Among : ℕ → List Stretch → Type 0
Among p [] = ⊥
Among p (x ∷ xs) = ((x.from ≤ p) × (p < x.to)) ⊎ Among p xs

-- no stretch has a byte
unfoldable pub Spent : List Stretch → Type 0
Spent [] = Unit {0}
Spent (x ∷ xs) = (x.to ≤ x.from) × Spent xs
