-- Beside Rule13: what inner functions say and proofs need. No promise comes to it.
use Rattle.std.specs.Prelude.{ℕ}
use Rattle.sorting.specs.Rules.{Rule, by_reaches}
use Rattle.sorting.specs.Rule13.{asks13}

abbrev pub rule13 : Rule ℕ
rule13 = by_reaches asks13
