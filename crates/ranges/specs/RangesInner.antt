-- Beside Ranges: what inner functions say and proofs need. No promise comes to it.
use Rattle.std.specs.Prelude.{◌≡◌, List, [], ◌∷◌, ◌⊎◌, ℕ, ◌+◌, ◌≤◌, ◌<◌}
use Rattle.ranges.specs.Ranges.{Range}

-- the id (c, k) lies in r
pub record Hit (r : Range) (c k : ℕ) : Type 0 where
  pub of : r.client ≡ c
  pub from : r.clock ≤ k
  pub below : k < r.clock + r.len

abbrev pub Deleted : List Range → ℕ → ℕ → Type 0
Deleted [] c k = ⊥
Deleted (r ∷ rs) c k = Hit r c k ⊎ Deleted rs c k

-- r comes wholly before q, and neither overlaps nor touches it
abbrev pub Apart : Range → Range → Type 0
Apart r q = (q.client < r.client) ⊎ ((q.client ≡ r.client) × (r.clock + r.len < q.clock))

abbrev pub Leads : Range → List Range → Type 0
Leads r [] = Unit {0}
Leads r (q ∷ qs) = Apart r q

-- highest client first, clocks rising, no empties, neighbours apart
abbrev pub Normal : List Range → Type 0
Normal [] = Unit {0}
Normal (r ∷ rs) = (0 < r.len) × Leads r rs × Normal rs
