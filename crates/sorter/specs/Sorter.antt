-- What a sorter does with rows and the entries of a vector, by a rule: slots, fronts and reaches, all looks, and the reports. Crate `outcome` says
-- that this is sorting.
use Rattle.std.specs.Prelude.{ℕ, suc, ◌-◌, ◌*◌, List, [], ◌∷◌, ◌++◌, length, take, replicate}
use Rattle.numbers.specs.Limits.{max_clients}
use Rattle.block.specs.declared.Block.{Block}
use Rattle.vector.specs.Vector.{Entry, clients_in}
use Rattle.grammar.specs.Course.{Course, things, ending}
use Rattle.slots.specs.declared.Noted.{Noted}
use Rattle.slots.specs.Slots.{Slot, noted_in, noted_at, noted_all, named_all}
use Rattle.picker.specs.declared.Look.{Look}
use Rattle.picker.specs.Fronts.{opened_from, filled_from}
use Rattle.picker.specs.Picker.{Desk, all_picked}
use Rattle.reports.specs.Reports.{counts_from, reaches_from, pending_from, fitted}
use Rattle.sorter.specs.declared.Sorting.{Sorting}

-- ---- rows noted one after the other

unfoldable pub noted_from : ℕ → ℕ → List Block → Noted → List Slot → Noted
noted_from most i [] s ss = s
noted_from most i (b ∷ bs) s ss = noted_from most (suc i) bs (noted_at most b.client i ss) (noted_in most b.client i ss)

unfoldable pub noted_by : ℕ → List Block → Noted
noted_by most bs = noted_from most 0 bs (record { slots = 0; last = 0 }) []

-- ---- what a sorter has before the first look

-- slots for so many clients: those of blocks and these
unfoldable pub slots_for : ℕ → List Block → List ℕ → List Slot
slots_for most bs names = named_all most names (noted_all most 0 bs [])

-- reaches for the clients of sections and of a vector, all starting at zero unless the vector names them
abbrev pub max_reaches : ℕ
max_reaches = 2 * max_clients

-- three words a slot, six a front
abbrev pub slot_words : ℕ
slot_words = 3 * max_reaches

abbrev pub front_words : ℕ
front_words = 6 * max_reaches

unfoldable pub reaches_at : List Slot → List Entry → List ℕ
reaches_at ss v = filled_from 0 ss v (replicate max_reaches 0)

unfoldable pub fronts_at : List Slot → List ℕ
fronts_at ss = opened_from 0 ss (replicate front_words 0)

-- ---- with these slots: all looks at the fronts of so many rows, into the words lent for the order

unfoldable pub desk_on : ℕ → List Slot → List Block → ℕ → List Entry → List ℕ → Desk
desk_on rule ss rows blocks v order = all_picked rule ss rows blocks (reaches_at ss v) (fronts_at ss) order

unfoldable pub counts_on : ℕ → List Slot → List Block → ℕ → List Entry → List ℕ → List ℕ
counts_on rule ss rows blocks v order = counts_from 0 ss (desk_on rule ss rows blocks v order).fronts

unfoldable pub reaches_on : ℕ → List Slot → List Block → ℕ → List Entry → List ℕ → List ℕ
reaches_on rule ss rows blocks v order = reaches_from 0 ss (desk_on rule ss rows blocks v order).reach

unfoldable pub pending_on : ℕ → List Slot → List Block → ℕ → List Entry → List ℕ → List ℕ
pending_on rule ss rows blocks v order = pending_from 0 ss (desk_on rule ss rows blocks v order).fronts (desk_on rule ss rows blocks v order).reach

-- the first n words, and zeros after them
unfoldable pub cleared : List ℕ → ℕ → List ℕ
cleared w n = take n w ++ replicate (length w - n) 0

unfoldable pub order_on : ℕ → List Slot → List Block → ℕ → List Entry → List ℕ → List ℕ
order_on rule ss rows blocks v order = cleared (desk_on rule ss rows blocks v order).order (desk_on rule ss rows blocks v order).at.steps

-- how many steps were made, and how many words each report needs
unfoldable pub sorting_of : Look → ℕ → ℕ → ℕ → Sorting
sorting_of p counts reaches pending = record { number = 0; steps = p.steps; counts = counts; reaches = reaches; pending = pending }

unfoldable pub sorting_on : ℕ → List Slot → List Block → ℕ → List Entry → List ℕ → Sorting
sorting_on rule ss rows blocks v order =
    sorting_of (desk_on rule ss rows blocks v order).at (length (counts_on rule ss rows blocks v order))
    (length (reaches_on rule ss rows blocks v order)) (length (pending_on rule ss rows blocks v order))

abbrev pub no_sorting : ℕ → Sorting
no_sorting n = record { number = n; steps = 0; counts = 0; reaches = 0; pending = 0 }

-- ---- against a vector: where it is refused nothing is written

abbrev pub slots_in : List Block → ℕ → Course Entry → List Slot
slots_in rows blocks c = slots_for max_reaches (take blocks rows) (clients_in (things c))

unfoldable pub sorting_read : ℕ → Course Entry → List Block → ℕ → List ℕ → Sorting
sorting_read rule c rows blocks order =
    ending c (λ s. sorting_on rule (slots_in rows blocks c) rows blocks (things c) order) (λ why. no_sorting why.number)

unfoldable pub order_read : ℕ → Course Entry → List Block → ℕ → List ℕ → List ℕ
order_read rule c rows blocks order = ending c (λ s. order_on rule (slots_in rows blocks c) rows blocks (things c) order) (λ why. order)

unfoldable pub counts_read : ℕ → Course Entry → List Block → ℕ → List ℕ → List ℕ → List ℕ
counts_read rule c rows blocks order w =
    ending c (λ s. fitted (length w) (counts_on rule (slots_in rows blocks c) rows blocks (things c) order)) (λ why. w)

unfoldable pub reaches_read : ℕ → Course Entry → List Block → ℕ → List ℕ → List ℕ → List ℕ
reaches_read rule c rows blocks order w =
    ending c (λ s. fitted (length w) (reaches_on rule (slots_in rows blocks c) rows blocks (things c) order)) (λ why. w)

unfoldable pub pending_read : ℕ → Course Entry → List Block → ℕ → List ℕ → List ℕ → List ℕ
pending_read rule c rows blocks order w =
    ending c (λ s. fitted (length w) (pending_on rule (slots_in rows blocks c) rows blocks (things c) order)) (λ why. w)
