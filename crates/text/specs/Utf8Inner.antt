-- Beside Utf8: what inner functions say and proofs need. No promise comes to it.
use Rattle.std.specs.Prelude.{ℕ, zero, suc, ◌<◌, List, [], ◌∷◌}
use Rattle.text.specs.declared.State.{State}
use Rattle.text.specs.declared.State.TheVariants.{Open, Broken}

-- ---- for the proofs

-- what a state's number may be, for a character of at most four bytes
unfoldable pub room : ℕ → ℕ
room zero = 16777216
room (suc zero) = 262144
room (suc (suc zero)) = 4096
room (suc (suc (suc zero))) = 64
room (suc (suc (suc (suc n)))) = 0

-- a state that reading can come to
unfoldable pub Legal : State → Type 0
Legal (Open n low high v) = v < room n
Legal Broken = Unit {0}

-- bytes below 128, each a character of one unit
unfoldable pub Plain : List ℕ → Type 0
Plain [] = Unit {0}
Plain (b ∷ t) = (b < 128) × Plain t
