-- A row measured by itself, as a plan of its own.
use Rattle.std.specs.Prelude.{ℕ, Bool, ◌&&◌, List, [], ◌∷◌, eqb, get_or}
use Rattle.numbers.specs.Number.{pick}
use Rattle.block.specs.declared.Block.{Block}
use Rattle.block.specs.Row.{no_block}
use Rattle.tokens.specs.Tokens.{Token}
use Rattle.kept.specs.declared.cursor.Cursor.{Cursor}
use Rattle.kept.specs.Plan.{rest_of}
use Rattle.records.specs.Stops.{row_tokens}

-- whole, and not the first of its section
unfoldable pub further_at : Cursor → Bool
further_at c = eqb c.head 0 && eqb c.from.0 0 && eqb c.skip.0 0

-- the row at the cursor alone, with a head if it has one
unfoldable pub one_plan : Cursor → List ℕ
one_plan c = 0 ∷ (c.row ∷ (pick (eqb c.head 0) 0 1 ∷ (c.from.0 ∷ (c.skip.0 ∷ []))))

-- what it comes to
unfoldable pub tokens_at : List ℕ → List Block → Cursor → List Token
tokens_at u rows c = let b = get_or rows c.row no_block in row_tokens u c.head (rest_of b c.from.0 c.skip.0) b
