-- What the slow plain sorter by held ids does with rows and h held ranges, in words w: slots, all sweeps over the rows by number, and the reports.
-- Crate `held_swept` says that this is sorting by held ids.
use Rattle.std.specs.Prelude.{ℕ, suc, true, List, [], ◌++◌, ◌∷◌, ltb, length, get_or, replicate}
use Rattle.numbers.specs.Number.{pick}
use Rattle.block.specs.declared.Block.{Block}
use Rattle.block.specs.Row.{no_block}
use Rattle.slots.specs.Slots.{Slot}
use Rattle.placing.specs.Placing.{rows_by}
use Rattle.awaited.specs.Awaited.{first_unmet, waiting_words}
use Rattle.sorter.specs.declared.Sorting.{Sorting}
use Rattle.sorter.specs.Sorter.{max_reaches, cleared}
use Rattle.sweeper.specs.Sweeper.{front_row, Board, board, seen_by, swept_all}
use Rattle.sweep_reports.specs.Reports.{taken_from}
use Rattle.slow_sorter.specs.Slowly.{sorting_by}

-- ---- what waits: rows, and the same by number

-- the front of a slot, so many of its blocks being taken
unfoldable pub awaited_at : List Slot → List ℕ → List Block → List Block → Slot → ℕ → List ℕ
awaited_at ss reach rows numbered s done =
    pick (ltb (front_row s done) (length rows))
    (waiting_words s (first_unmet ss reach (get_or rows (front_row s done) no_block) (get_or numbered (front_row s done) no_block))) []

-- of these slots, the first of which is slot i of all
unfoldable pub awaited_from : List Slot → List ℕ → List Block → List Block → List ℕ → ℕ → List Slot → List ℕ
awaited_from all reach rows numbered taken i [] = []
awaited_from all reach rows numbered taken i (s ∷ ss) =
    awaited_at all reach rows numbered s (get_or taken i 0) ++ awaited_from all reach rows numbered taken (suc i) ss

-- ---- with these slots

-- all sweeps, into the words lent for the order: nothing is taken before the first, so no client reaches anywhere
unfoldable pub board_by : List ℕ → ℕ → List Slot → List Block → List ℕ → Board
board_by w h ss rows order = swept_all 28 ss (seen_by true w h ss rows) (board (replicate max_reaches 0) (replicate max_reaches 0) order 0)

unfoldable pub counts_by : List ℕ → ℕ → List Slot → List Block → List ℕ → List ℕ
counts_by w h ss rows order = taken_from 0 ss (board_by w h ss rows order).taken

unfoldable pub pending_by : List ℕ → ℕ → List Slot → List Block → List ℕ → List ℕ
pending_by w h ss rows order =
    awaited_from ss (board_by w h ss rows order).reach rows (rows_by w h ss rows 0 rows) (board_by w h ss rows order).taken 0 ss

unfoldable pub order_by : List ℕ → ℕ → List Slot → List Block → List ℕ → List ℕ
order_by w h ss rows order = cleared (board_by w h ss rows order).order (board_by w h ss rows order).steps

-- how many steps were made, and how many words each report needs; no reaches are reported
unfoldable pub sorting_at : List ℕ → ℕ → List Slot → List Block → List ℕ → Sorting
sorting_at w h ss rows order =
    sorting_by (board_by w h ss rows order).steps (length (counts_by w h ss rows order)) 0 (length (pending_by w h ss rows order))
