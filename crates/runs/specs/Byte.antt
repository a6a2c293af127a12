-- How the byte column spells a run: the byte, and how often less one.
use Rattle.std.specs.Prelude.{ℕ, List, ◌∷◌}
use Rattle.numbers.specs.Number.{unsigned}

-- a run: k, n + 1 times
unfoldable pub run_bytes : ℕ → ℕ → List ℕ
run_bytes k n = k ∷ unsigned n
