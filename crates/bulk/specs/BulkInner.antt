-- Beside Bulk: what inner functions say and proofs need. No promise comes to it.
use Rattle.std.specs.Prelude.{ℕ, ◌+◌, ◌≤◌, ◌≡◌, List, length}
use Rattle.std.proofs.Math.Seq.{slice}
use Rattle.text.specs.Utf8.{take_units, took}

-- ---- the four columns

-- the text of u units at `at`, among those up to `end`, has u bytes
abbrev pub TookPlain : List ℕ → ℕ → ℕ → ℕ → Type 0
TookPlain s at end u = (at + u ≤ length s) × (take_units 7 u (slice at end s) ≡ took u)
