-- The stages of rule 13: those of rule 28, and then the id before the block, if its client has one.
use Rattle.std.specs.Prelude.{◌-◌, List, [], ◌∷◌, ◌++◌, ltb}
use Rattle.block.specs.declared.Block.{Block}
use Rattle.picker.specs.declared.stages.Dependency.{Dependency}
use Rattle.picker.specs.Waits.{dep}
use Rattle.picker.specs.Rule28.{stages28}

unfoldable pub own : Block → Dependency
own b = dep (ltb 0 b.clock) (record { client = b.client; clock = b.clock - 1 })

unfoldable pub stages13 : Block → List Dependency
stages13 b = stages28 b ++ (own b ∷ [])
