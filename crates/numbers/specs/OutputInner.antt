-- Beside Output: what inner functions say and proofs need. No promise comes to it.
use Rattle.std.specs.Prelude.{ℕ}
use Rattle.numbers.specs.declared.Written.{Written}

abbrev pub refusal : ℕ → Written
refusal v = record { number = v; bytes = 0 }

abbrev pub done : ℕ → Written
done n = record { number = 0; bytes = n }
