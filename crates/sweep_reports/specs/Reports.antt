-- The reports of the slow plain sorter, read off its slots, reaches and counts, and the rows: words for each slot, highest client first.
use Rattle.std.specs.Prelude.{ℕ, suc, List, [], ◌∷◌, ◌++◌, ltb, length, get_or}
use Rattle.numbers.specs.Number.{pick}
use Rattle.block.specs.declared.Block.{Block}
use Rattle.block.specs.Row.{no_block}
use Rattle.slots.specs.Slots.{Slot, rank, is_named}
use Rattle.sweeper.specs.Sweeper.{unmet_by, front_row}

-- how many blocks of a client that has any were taken
unfoldable pub taken_of : Slot → ℕ → List ℕ
taken_of s done = pick (ltb 0 s.count) (s.client ∷ (done ∷ [])) []

-- of these slots, the first of which is slot i
unfoldable pub taken_from : ℕ → List Slot → List ℕ → List ℕ
taken_from i [] taken = []
taken_from i (s ∷ ss) taken = taken_of s (get_or taken i 0) ++ taken_from (suc i) ss taken

-- how far a client reaches, with these slots
unfoldable pub reach_for : List Slot → List ℕ → ℕ → ℕ
reach_for ss reach c = pick (is_named c ss) (get_or reach (rank c ss) 0) 0

-- what block b of a slot waits for: the client of the first id that is not met, and how far that reaches
unfoldable pub block_waits : ℕ → List Slot → List ℕ → Slot → Block → List ℕ
block_waits rule ss reach s b =
    pick (unmet_by rule ss reach b).there
    (s.client ∷ ((unmet_by rule ss reach b).id.client ∷ (reach_for ss reach (unmet_by rule ss reach b).id.client ∷ []))) []

-- its front, so many of its blocks being taken
unfoldable pub front_waits : ℕ → List Slot → List Block → List ℕ → Slot → ℕ → List ℕ
front_waits rule ss rows reach s done =
    pick (ltb (front_row s done) (length rows)) (block_waits rule ss reach s (get_or rows (front_row s done) no_block)) []

-- of these slots, the first of which is slot i of all
unfoldable pub waits_from : ℕ → ℕ → List Slot → List Block → List ℕ → List ℕ → List Slot → List ℕ
waits_from i rule ss rows reach taken [] = []
waits_from i rule ss rows reach taken (s ∷ rest) = front_waits rule ss rows reach s (get_or taken i 0) ++ waits_from (suc i) rule ss rows reach taken rest
