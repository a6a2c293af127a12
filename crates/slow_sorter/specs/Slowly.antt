-- What the slow plain sorter does with rows and the entries of a vector, by a rule: slots and reaches, all sweeps, and the reports. Crate `swept`
-- says that this is sorting.
use Rattle.std.specs.Prelude.{ℕ, ◌≡◌, List, length, replicate}
use Rattle.block.specs.declared.Block.{Block}
use Rattle.vector.specs.Vector.{Entry}
use Rattle.grammar.specs.Course.{Course, things, ending}
use Rattle.slots.specs.Slots.{Slot}
use Rattle.reports.specs.Reports.{reaches_from, fitted}
use Rattle.sorter.specs.declared.Sorting.{Sorting}
use Rattle.sorter.specs.Sorter.{max_reaches, reaches_at, cleared, no_sorting, slots_in}
use Rattle.sweeper.specs.Sweeper.{Board, board, swept_all}
use Rattle.sweep_reports.specs.Reports.{taken_from, waits_from}

-- how many steps were made, and how many words each report needs
abbrev pub sorting_by : ℕ → ℕ → ℕ → ℕ → Sorting
sorting_by steps counts reaches pending = record { number = 0; steps = steps; counts = counts; reaches = reaches; pending = pending }

-- what is given, and left in the words lent for the order and for each report
pub record Left : Type 0 where
  pub sorting : Sorting
  pub order : List ℕ
  pub counts : List ℕ
  pub reaches : List ℕ
  pub pending : List ℕ

abbrev pub Leaves : Left → Sorting → List ℕ → List ℕ → List ℕ → List ℕ → Type 0
Leaves l r order₁ counts₁ reaches₁ pending₁ =
    (r ≡ l.sorting) × (order₁ ≡ l.order) × (counts₁ ≡ l.counts) × (reaches₁ ≡ l.reaches) × (pending₁ ≡ l.pending)

-- ---- with these slots

-- all sweeps over the rows, into the words lent for the order
unfoldable pub board_on : ℕ → List Slot → List Block → List Entry → List ℕ → Board
board_on rule ss rows v order = swept_all rule ss rows (board (reaches_at ss v) (replicate max_reaches 0) order 0)

-- the reports on a board
unfoldable pub reports_on : ℕ → List Slot → List Block → Board → List ℕ → List ℕ → List ℕ → Left
reports_on rule ss rows d counts reaches pending =
    record {
      sorting = sorting_by d.steps (length (taken_from 0 ss d.taken)) (length (reaches_from 0 ss d.reach))
          (length (waits_from 0 rule ss rows d.reach d.taken ss));
      order = cleared d.order d.steps;
      counts = fitted (length counts) (taken_from 0 ss d.taken);
      reaches = fitted (length reaches) (reaches_from 0 ss d.reach);
      pending = fitted (length pending) (waits_from 0 rule ss rows d.reach d.taken ss);
    }

unfoldable pub swept_on : ℕ → List Slot → List Block → List Entry → List ℕ → List ℕ → List ℕ → List ℕ → Left
swept_on rule ss rows v order counts reaches pending = reports_on rule ss rows (board_on rule ss rows v order) counts reaches pending

-- ---- against a vector: where it is refused nothing is written

unfoldable pub unswept : ℕ → List ℕ → List ℕ → List ℕ → List ℕ → Left
unswept number order counts reaches pending =
    record { sorting = no_sorting number; order = order; counts = counts; reaches = reaches; pending = pending }

unfoldable pub swept_read : ℕ → Course Entry → List Block → ℕ → List ℕ → List ℕ → List ℕ → List ℕ → Left
swept_read rule c rows blocks order counts reaches pending =
    ending c (λ s. swept_on rule (slots_in rows blocks c) rows (things c) order counts reaches pending)
    (λ why. unswept why.number order counts reaches pending)
