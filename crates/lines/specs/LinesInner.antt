-- Beside Lines: what inner functions say and proofs need. No promise comes to it.
use Rattle.std.specs.Prelude.{ℕ, ◌+◌, ◌-◌, List, ◌++◌, length, take, drop}

-- bs stands in out from place `used` on, as far as out reaches; all else is as before
unfoldable pub overlay : List ℕ → ℕ → List ℕ → List ℕ
overlay out used bs = take used out ++ take (length out - used) bs ++ drop (used + length bs) out
