-- The tokens of rows that a plan names.
use Rattle.std.specs.Prelude.{ℕ, ◌+◌, List, [], ◌∷◌, ◌++◌, ltb, eqb, get_or}
use Rattle.numbers.specs.Number.{pick}
use Rattle.block.specs.declared.Block.{Block}
use Rattle.block.specs.Row.{no_block}
use Rattle.tokens.specs.Tokens.{Token, client, var}
use Rattle.kept.specs.declared.cursor.Ends.{Ends}
use Rattle.kept.specs.Plan.{Stop, ends_of, sane, cut_at}
use Rattle.records.specs.Records.{block_tokens}

-- a section's head, before its first piece
unfoldable pub head_tokens : ℕ → ℕ → Block → List Token
head_tokens count from b = pick (eqb count 0) [] (var count ∷ (client b.client ∷ (var (b.clock + from) ∷ [])))

-- what stands between two ends of row b
unfoldable pub row_tokens : List ℕ → ℕ → Ends → Block → List Token
row_tokens u count e b = pick (sane b e) (head_tokens count e.from.0 b ++ block_tokens u (cut_at b e)) []

-- the rows of a table one after the other, up to the first that is not in it
unfoldable pub stops_tokens : List ℕ → List Block → ℕ → List Stop → List Token
stops_tokens u rows n [] = []
stops_tokens u rows n (s ∷ ss) =
    pick (ltb s.row n) (row_tokens u s.head (ends_of s) (get_or rows s.row no_block) ++ stops_tokens u rows n ss) []
