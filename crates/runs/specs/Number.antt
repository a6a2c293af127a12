-- How the number column spells a run: a signed number; minus, and how often less two, where it stands more than once.
use Rattle.std.specs.Prelude.{ℕ, ◌-◌, List, ◌++◌, true, false, eqb}
use Rattle.numbers.specs.Number.{pick, unsigned, signed}

-- a run: v, n + 1 times
unfoldable pub run_bytes : ℕ → ℕ → List ℕ
run_bytes v n = pick (eqb n 0) (signed false v) (signed true v ++ unsigned (n - 1))
