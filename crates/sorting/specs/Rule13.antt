-- Rule 13, that of peers on Yjs 13 (W-210): a block waits for what it hangs on at other clients, and then behind a gap: until its own client's reach
-- has come to its clock, so that the id before the block is met.
use Rattle.std.specs.Prelude.{ℕ, zero, suc, List, [], ◌∷◌, ◌++◌}
use Rattle.block.specs.declared.Id.{Id}
use Rattle.block.specs.declared.Block.{Block}
use Rattle.sorting.specs.Rules.{deps, others}

-- the id before a clock of client c, if there is one
unfoldable pub id_before : ℕ → ℕ → List Id
id_before c zero = []
id_before c (suc k) = record { client = c; clock = k } ∷ []

unfoldable pub asks13 : ℕ → Block → List Id
asks13 c b = others c (deps b) ++ id_before c b.clock
