-- What `sort_held_slowly` promises (W-211): what `sort_held` does, in the slow order, and reported of where that ends.
use Rattle.std.specs.Prelude.{ℕ, ◌/◌, List, length}
use Rattle.block.specs.declared.Block.{Block}
use Rattle.sort_answers.specs.Answers.{Room}
use Rattle.held_answers.specs.declared.SortedHeld.{SortedHeld}
use Rattle.held_answers.specs.Answers.{SortHeld}
use Rattle.held_swept.specs.HeldSlowly.{slow_order_held, slow_counts_held, slow_pending_held}
use Rattle.held_sorts.specs.Promises.{lent, Finder, sort_held_by, Leaves}

-- sweeps over all clients, lowest first, until one takes nothing
abbrev pub slowly : Finder
slowly bs rs = record { order = slow_order_held bs rs; counts = slow_counts_held bs rs; pending = slow_pending_held bs rs }

abbrev pub slow_sort_held_of : ℕ → List ℕ → List ℕ → ℕ → ℕ → ℕ → Room → SortHeld
slow_sort_held_of = sort_held_by slowly

abbrev pub SortHeldSlowly : ℕ → List ℕ → List ℕ → List Block → List ℕ → List ℕ → List ℕ → List ℕ → List ℕ
    → SortedHeld → List Block → List ℕ → List ℕ → List ℕ → List ℕ → List ℕ → Type 0
SortHeldSlowly form u v rows ranges held order counts pending =
    Leaves (slow_sort_held_of form u v (length rows) (length ranges / 3) (length held / 3) (lent order counts pending))
    rows ranges held order counts pending
