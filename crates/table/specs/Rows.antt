-- A table whose rows from one on are all one row, or have no block.
use Rattle.std.specs.Prelude.{ℕ, ◌-◌, List, ◌++◌, length, replicate, take}
use Rattle.block.specs.declared.Block.{Block}
use Rattle.block.specs.Row.{no_block}

unfoldable pub filled_from : ℕ → Block → List Block → List Block
filled_from from b rows = take from rows ++ replicate (length rows - from) b

unfoldable pub cleared_from : ℕ → List Block → List Block
cleared_from from rows = filled_from from no_block rows
