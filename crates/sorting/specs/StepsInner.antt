-- Beside Steps: what inner functions say and proofs need. No promise comes to it.
use Rattle.std.specs.Prelude.{ℕ, ◌≤◌, T}
use Rattle.sorting.specs.Steps.{System}

-- who knows more holds no block back
unfoldable pub Monotone : {A : Type 0} → System A → Type 0
Monotone {A} S = (κ κ' : A → ℕ) → ((a : A) → κ a ≤ κ' a) → (c k : ℕ) → T (S.ready κ c k) → T (S.ready κ' c k)
