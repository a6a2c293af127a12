-- What a sorter by held ids does with rows and h held ranges, in words w: slots and fronts, all looks at the rows by number, and the reports. Crate
-- `held_outcome` says that this is sorting by held ids.
use Rattle.std.specs.Prelude.{ℕ, ◌≡◌, List, length, replicate}
use Rattle.block.specs.declared.Block.{Block}
use Rattle.slots.specs.Slots.{Slot}
use Rattle.picker.specs.declared.Look.{Look}
use Rattle.picker.specs.Picker.{Desk, all_picked}
use Rattle.reports.specs.Reports.{counts_from}
use Rattle.placing.specs.Placing.{rows_by}
use Rattle.awaited.specs.Awaited.{waiting_from}
use Rattle.sorter.specs.declared.Sorting.{Sorting}
use Rattle.sorter.specs.Sorter.{max_reaches, fronts_at, cleared, sorting_of}

-- the rows by number
abbrev pub numbered_in : List ℕ → ℕ → List Slot → List Block → List Block
numbered_in w h ss rows = rows_by w h ss rows 0 rows

-- all looks at them, and what these leave
abbrev pub picks_by : List ℕ → ℕ → List Slot → List Block → ℕ → List ℕ → List ℕ → List ℕ → Desk
picks_by w h ss rows blocks reach fronts order = all_picked 28 ss (numbered_in w h ss rows) blocks reach fronts order

abbrev pub Picks : Desk → Look → List ℕ → List ℕ → List ℕ → Type 0
Picks d r reach₁ fronts₁ order₁ = (r ≡ d.at) × (reach₁ ≡ d.reach) × (fronts₁ ≡ d.fronts) × (order₁ ≡ d.order)

-- nothing is taken before the first look, so all counts are 0
unfoldable pub desk_by : List ℕ → ℕ → List Slot → List Block → ℕ → List ℕ → Desk
desk_by w h ss rows blocks order = all_picked 28 ss (numbered_in w h ss rows) blocks (replicate max_reaches 0) (fronts_at ss) order

unfoldable pub counts_by : List ℕ → ℕ → List Slot → List Block → ℕ → List ℕ → List ℕ
counts_by w h ss rows blocks order = counts_from 0 ss (desk_by w h ss rows blocks order).fronts

unfoldable pub pending_by : List ℕ → ℕ → List Slot → List Block → ℕ → List ℕ → List ℕ
pending_by w h ss rows blocks order =
    waiting_from ss (desk_by w h ss rows blocks order).reach (desk_by w h ss rows blocks order).fronts rows (numbered_in w h ss rows) 0 ss

unfoldable pub order_by : List ℕ → ℕ → List Slot → List Block → ℕ → List ℕ → List ℕ
order_by w h ss rows blocks order = cleared (desk_by w h ss rows blocks order).order (desk_by w h ss rows blocks order).at.steps

-- how many steps were made, and how many words each report needs; no reaches are reported
unfoldable pub sorting_by : List ℕ → ℕ → List Slot → List Block → ℕ → List ℕ → Sorting
sorting_by w h ss rows blocks order =
    sorting_of (desk_by w h ss rows blocks order).at (length (counts_by w h ss rows blocks order)) 0 (length (pending_by w h ss rows blocks order))
