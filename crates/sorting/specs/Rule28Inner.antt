-- Beside Rule28: what inner functions say and proofs need. No promise comes to it.
use Rattle.std.specs.Prelude.{ℕ}
use Rattle.sorting.specs.Rules.{Rule, by_reaches}
use Rattle.sorting.specs.Rule28.{asks28}

abbrev pub rule28 : Rule ℕ
rule28 = by_reaches asks28
