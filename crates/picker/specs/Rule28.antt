-- The stages of rule 28: left id, right id, parent id, where these are another client's.
use Rattle.std.specs.Prelude.{ℕ, Bool, false, List, [], ◌∷◌, eqb}
use Rattle.numbers.specs.Number.{pick}
use Rattle.block.specs.declared.Id.{Id}
use Rattle.block.specs.declared.Block.{Block}
use Rattle.block.specs.Row.{left_id, right_id, parent_id}
use Rattle.picker.specs.declared.stages.Dependency.{Dependency}
use Rattle.picker.specs.Waits.{dep}

-- a dependency of a block of client c
unfoldable pub other : ℕ → Bool → Id → Dependency
other c there d = dep (pick (eqb d.client c) false there) d

unfoldable pub stages28 : Block → List Dependency
stages28 b =
    other b.client b.has_left (left_id b)
    ∷ (other b.client b.has_right (right_id b) ∷ (other b.client b.has_parent (parent_id b) ∷ []))
