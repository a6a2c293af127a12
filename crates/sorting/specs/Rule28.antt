-- Rule 28, that of demand 3 (and, on the domain of document 01, of yrs 0.28.0): a block waits for what it hangs on at other clients.
use Rattle.std.specs.Prelude.{ℕ, List}
use Rattle.block.specs.declared.Id.{Id}
use Rattle.block.specs.declared.Block.{Block}
use Rattle.sorting.specs.Rules.{deps, others}

-- left id, right id, parent id, those of other clients
unfoldable pub asks28 : ℕ → Block → List Id
asks28 c b = others c (deps b)
