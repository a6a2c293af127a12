-- Beside Number: what inner functions say and proofs need. No promise comes to it.
use Rattle.std.specs.Prelude.{ℕ, ◌-◌}
use Rattle.std.specs.Int.Count.{count_leading_zeros}
use Rattle.numbers.specs.declared.Refusal.{Refusal}
use Rattle.numbers.specs.declared.Read.{Read}
use Rattle.numbers.specs.declared.Read.TheVariants.{Number, Refused}
use Rattle.numbers.specs.declared.Signed.{Signed}
use Rattle.numbers.specs.declared.Signed.TheVariants.{Value, Wrong}
use Rattle.numbers.specs.Number.{none}

abbrev pub why_read : Read → Refusal
why_read (Number x e) = none
why_read (Refused why) = why

abbrev pub why_signed : Signed → Refusal
why_signed (Value m x e) = none
why_signed (Wrong why) = why

-- ---- writing

-- significant bits of a number of 64
abbrev pub bits : ℕ → ℕ
bits x = 64 - count_leading_zeros 64 x
