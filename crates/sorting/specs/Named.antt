-- The rules by the numbers that a caller names them with: 13, and any other number is 28's (that 28 is the only other one that is taken, `sorts`
-- says).
use Rattle.std.specs.Prelude.{ℕ, List, eqb}
use Rattle.numbers.specs.Number.{pick}
use Rattle.block.specs.declared.Id.{Id}
use Rattle.block.specs.declared.Block.{Block}
use Rattle.sorting.specs.Rules.{Rule, by_reaches}
use Rattle.sorting.specs.Rule28.{asks28}
use Rattle.sorting.specs.Rule13.{asks13}

unfoldable pub asks_of : ℕ → ℕ → Block → List Id
asks_of rule c b = pick (eqb rule 13) (asks13 c b) (asks28 c b)

abbrev pub rule_of : ℕ → Rule ℕ
rule_of rule = by_reaches (asks_of rule)
