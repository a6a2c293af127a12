-- What `sort_slowly` promises (W-211): what `sort` does, in the slow order, and reported of where that ends.
use Rattle.std.specs.Prelude.{ℕ, ◌/◌, List, length}
use Rattle.block.specs.declared.Block.{Block}
use Rattle.sorting.specs.Slow.{slow_order_of, slow_counts_of, slow_reaches_of, slow_pending_of}
use Rattle.sort_answers.specs.declared.Sorted.{Sorted}
use Rattle.sort_answers.specs.Answers.{Sort, Room}
use Rattle.sorts.specs.Promises.{lent, Finder, sort_by, Leaves}

-- sweeps over all clients, lowest first, until one takes nothing
abbrev pub slowly : Finder
slowly R bs v = record { order = slow_order_of R bs v; counts = slow_counts_of R bs v; reaches = slow_reaches_of R bs v; pending = slow_pending_of R bs v }

abbrev pub slow_sort_of : ℕ → ℕ → List ℕ → List ℕ → ℕ → ℕ → Room → Sort
slow_sort_of = sort_by slowly

abbrev pub SortSlowly : ℕ → ℕ → List ℕ → List ℕ → List Block → List ℕ → List ℕ → List ℕ → List ℕ → List ℕ
    → Sorted → List Block → List ℕ → List ℕ → List ℕ → List ℕ → List ℕ → Type 0
SortSlowly rule form u v rows ranges order counts reaches pending =
    Leaves (slow_sort_of rule form u v (length rows) (length ranges / 3) (lent order counts reaches pending)) rows ranges order counts reaches pending
