-- Beside Tokens: what inner functions say and proofs need. No promise comes to it.
use Rattle.std.specs.Prelude.{ℕ}
use Rattle.tokens.specs.Tokens.{Token, field, types}

-- ---- tokens

abbrev pub type_number : ℕ → Token
type_number v = field types v
