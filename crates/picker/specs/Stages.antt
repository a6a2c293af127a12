-- The stages of a rule, a list: what a block may wait for, in the order in which it is asked for.
use Rattle.std.specs.Prelude.{ℕ, List, [], eqb, get_or}
use Rattle.numbers.specs.Number.{pick}
use Rattle.block.specs.declared.Block.{Block}
use Rattle.block.specs.Kinds.{SKIP}
use Rattle.picker.specs.declared.stages.Dependency.{Dependency}
use Rattle.picker.specs.Waits.{no_dependency}
use Rattle.picker.specs.Rule28.{stages28}
use Rattle.picker.specs.Rule13.{stages13}

-- nothing holds a Skip
unfoldable pub stages : ℕ → Block → List Dependency
stages rule b = pick (eqb b.kind SKIP) [] (pick (eqb rule 13) (stages13 b) (stages28 b))

-- how many they are
unfoldable pub stage_count : ℕ → ℕ
stage_count rule = pick (eqb rule 13) 4 3

-- stage k
unfoldable pub stage_at : ℕ → Block → ℕ → Dependency
stage_at rule b k = get_or (stages rule b) k no_dependency
