-- What the sorter by held ids gives and leaves, of blocks that were read: the order, and the reports on the one outcome.
use Prim.Native.Nat.{ℕ, ◌≤◌}
use mathlib.Core.Path.{◌≡◌, refl, ap, ◌∙◌}
use mathlib.Core.List.{List, []}
use lib.ListN.{length, take}
use Rattle.block.specs.declared.Block.{Block}
use Rattle.ranges.specs.RangesInner.{Normal}
use Rattle.ranges.specs.TableInner.{rows_from}
use Rattle.picker.specs.Picker.{nowhere}
use Rattle.reports.specs.Reports.{fitted}
use Rattle.sorting.specs.Held.{order_held, counts_held, pending_held}
use Rattle.outcome.specs.Tie.{overlaid}
use Rattle.outcome.proofs.Overlay.{overlaid-front, overlaid-length}
use Rattle.sorter.specs.Sorter.{slots_for, max_reaches, cleared, sorting_of}
use Rattle.held_sorter.specs.HeldSorter.{desk_by, order_by, counts_by, pending_by, sorting_by}
use Rattle.held_outcome.proofs.Came.{Fit, came, order-so, counts-so}
use Rattle.held_outcome.proofs.Waits.{pending-so}

module _ (bs : List Block) (fit : Fit bs) (rows : List Block) (back : take (length bs) rows ≡ bs) (short : length rows ≤ nowhere) (w : List ℕ) (h : ℕ)
    (normal : Normal (rows_from w 0 h)) (before : List ℕ) where
  abbrev taken : List ℕ
  taken = order_held bs (rows_from w 0 h)

  steps-are : (desk_by w h (slots_for max_reaches bs []) rows (length bs) before).at.steps ≡ length taken
  steps-are = (came bs fit rows back short w h normal before).steps ∙ ap length (order-so bs fit rows back short w h normal)

  words_are : (desk_by w h (slots_for max_reaches bs []) rows (length bs) before).order ≡ overlaid before taken
  words_are = (came bs fit rows back short w h normal before).order ∙ ap (overlaid before) (order-so bs fit rows back short w h normal)

  pub order_is : order_by w h (slots_for max_reaches bs []) rows (length bs) before ≡ fitted (length before) taken
  unfolding order_by cleared fitted
  order_is = rw (steps-are, words_are) (rw (overlaid-front before taken, overlaid-length before taken) refl)

  pub counts-are : counts_by w h (slots_for max_reaches bs []) rows (length bs) before ≡ counts_held bs (rows_from w 0 h)
  counts-are = counts-so bs fit rows back short w h normal before

  pub pending-are : pending_by w h (slots_for max_reaches bs []) rows (length bs) before ≡ pending_held bs (rows_from w 0 h)
  pending-are = pending-so bs fit rows back short w h normal before

  pub sorting-is : sorting_by w h (slots_for max_reaches bs []) rows (length bs) before
      ≡ record { number = 0; steps = length taken; counts = length (counts_held bs (rows_from w 0 h)); reaches = 0; pending = length (pending_held bs (rows_from w 0 h)) }
  unfolding sorting_by sorting_of
  sorting-is = rw (steps-are, counts-are, pending-are) refl
