-- Blocks by number. Block k of its client's stands at clock k and has one clock, a Skip too; and where it hung on an id of another client that is not
-- held at first, it hangs on the number of that client's block which holds the id. So whether an id is held is whether its client's queue has got
-- past one block, and a sorter by reaches that sorts these blocks sorts by held ids.
use Rattle.std.specs.Prelude.{ℕ, suc, ◌+◌, ◌-◌, Bool, true, false, List, [], ◌∷◌, ltb, leb, eqb, length, get_or}
use Rattle.numbers.specs.Number.{pick}
use Rattle.numbers.specs.Limits.{max_clock}
use Rattle.block.specs.declared.Id.{Id}
use Rattle.block.specs.declared.Block.{Block}
use Rattle.block.specs.Row.{no_id, no_block, left_id, right_id, parent_id}
use Rattle.block.specs.Rows.{ids_are, parent_is, plain}
use Rattle.block.specs.Kinds.{GC}
use Rattle.sorting.specs.Rules.{is_skip}

-- ---- the block of a queue that holds a clock

-- how many blocks at its start end at or below the clock
unfoldable pub ended : List Block → ℕ → ℕ
ended [] k = 0
ended (b ∷ q) k = pick (leb (b.clock + b.length.0) k) (suc (ended q k)) 0

-- the first that does not holds the clock, unless it is a Skip or starts above it
unfoldable pub starts : Block → ℕ → Bool
starts b k = pick (is_skip b) false (leb b.clock k)

-- its number; a clock that no block holds has one that no queue comes to
unfoldable pub holder : List Block → ℕ → ℕ
holder q k = pick (ltb (ended q k) (length q)) (pick (starts (get_or q (ended q k) no_block) k) (ended q k) max_clock) max_clock

-- ---- a block by number, where these ids are held at first and these are the numbers of the others' holders

module _ (gone : Id → Bool) (place : Id → ℕ) where
  -- whether an id is still asked for: it is there, another client's, and not held at first; a Skip asks for none
  unfoldable pub asked : Block → Bool → Id → Bool
  asked b there d = pick (is_skip b) false (pick there (pick (eqb d.client b.client) false (pick (gone d) false true)) false)

  unfoldable pub placed : Bool → Id → Id
  placed still d = pick still (record { client = d.client; clock = place d }) no_id

  unfoldable pub by_number : ℕ → Block → Block
  by_number k b =
      ids_are (asked b b.has_left (left_id b)) (placed (asked b b.has_left (left_id b)) (left_id b))
      (asked b b.has_right (right_id b)) (placed (asked b b.has_right (right_id b)) (right_id b))
      (parent_is (asked b b.has_parent (parent_id b)) (placed (asked b b.has_parent (parent_id b)) (parent_id b)) (plain b.client k 1 GC))

  -- these blocks, the first of which is block i of all, each client's first being this one of all
  unfoldable pub numbered_from : (ℕ → ℕ) → ℕ → List Block → List Block
  numbered_from first i [] = []
  numbered_from first i (b ∷ bs) = by_number (i - first b.client) b ∷ numbered_from first (suc i) bs
