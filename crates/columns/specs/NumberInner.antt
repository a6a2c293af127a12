-- Beside Number: what inner functions say and proofs need. No promise comes to it.
use Rattle.numbers.specs.declared.Refusal.{Refusal}
use Rattle.numbers.specs.Number.{none}
use Rattle.columns.specs.declared.number.Answer.{Answer}
use Rattle.columns.specs.declared.number.Answer.TheVariants.{Next, Bad}

abbrev pub why_number : Answer → Refusal
why_number (Next v c) = none
why_number (Bad why) = why
