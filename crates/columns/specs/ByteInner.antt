-- Beside Byte: what inner functions say and proofs need. No promise comes to it.
use Rattle.numbers.specs.declared.Refusal.{Refusal}
use Rattle.numbers.specs.Number.{none}
use Rattle.columns.specs.declared.byte.Answer.{Answer}
use Rattle.columns.specs.declared.byte.Answer.TheVariants.{Next, Bad}

abbrev pub why_byte : Answer → Refusal
why_byte (Next v c) = none
why_byte (Bad why) = why
