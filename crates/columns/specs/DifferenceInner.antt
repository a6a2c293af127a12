-- Beside Difference: what inner functions say and proofs need. No promise comes to it.
use Rattle.numbers.specs.declared.Refusal.{Refusal}
use Rattle.numbers.specs.Number.{none}
use Rattle.columns.specs.declared.difference.Answer.{Answer}
use Rattle.columns.specs.declared.difference.Answer.TheVariants.{Next, Bad}

abbrev pub why_difference : Answer → Refusal
why_difference (Next v c) = none
why_difference (Bad why) = why
