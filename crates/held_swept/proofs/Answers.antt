-- What the slow plain sorter by held ids gives and leaves, of blocks that were read: the slow order, and the reports on where it ends.
use Prim.Native.Nat.{ℕ, ◌≤◌}
use mathlib.Core.Path.{◌≡◌, refl, sym, ap, ◌∙◌}
use mathlib.Core.List.{List, []}
use lib.ListN.{length, take}
use Rattle.block.specs.declared.Block.{Block}
use Rattle.ranges.specs.RangesInner.{Normal}
use Rattle.ranges.specs.TableInner.{rows_from}
use Rattle.picker.specs.Picker.{nowhere}
use Rattle.reports.specs.Reports.{fitted}
use Rattle.outcome.specs.Tie.{overlaid}
use Rattle.outcome.proofs.Overlay.{overlaid-front, overlaid-length}
use Rattle.sorter.specs.Sorter.{slots_for, max_reaches, cleared}
use Rattle.held_outcome.proofs.Came.{Fit}
use Rattle.slow_held_sorter.specs.SlowHeld.{board_by, order_by, counts_by, pending_by, sorting_at}
use Rattle.held_swept.specs.HeldSlowly.{slow_order_held, slow_counts_held, slow_pending_held}
use Rattle.held_swept.proofs.Same.{same-counts, same-pending}
use Rattle.held_swept.proofs.Came.{came, order-so, counts-so}
use Rattle.held_swept.proofs.Waits.{pending-so}

module _ (bs : List Block) (fit : Fit bs) (rows : List Block) (back : take (length bs) rows ≡ bs) (short : length rows ≤ nowhere) (w : List ℕ) (h : ℕ)
    (normal : Normal (rows_from w 0 h)) (before : List ℕ) where
  abbrev taken : List ℕ
  taken = slow_order_held bs (rows_from w 0 h)

  steps-are : (board_by w h (slots_for max_reaches bs []) rows before).steps ≡ length taken
  steps-are = (came bs fit rows back short w h normal before).steps ∙ ap length (order-so bs fit rows back short w h normal before)

  words_are : (board_by w h (slots_for max_reaches bs []) rows before).order ≡ overlaid before taken
  words_are = (came bs fit rows back short w h normal before).order ∙ ap (overlaid before) (order-so bs fit rows back short w h normal before)

  pub order_is : order_by w h (slots_for max_reaches bs []) rows before ≡ fitted (length before) taken
  unfolding order_by cleared fitted
  order_is = rw (steps-are, words_are) (rw (overlaid-front before taken, overlaid-length before taken) refl)

  pub counts-are : counts_by w h (slots_for max_reaches bs []) rows before ≡ slow_counts_held bs (rows_from w 0 h)
  counts-are = counts-so bs fit rows back short w h normal before ∙ sym (same-counts bs (rows_from w 0 h))

  pub pending-are : pending_by w h (slots_for max_reaches bs []) rows before ≡ slow_pending_held bs (rows_from w 0 h)
  pending-are = pending-so bs fit rows back short w h normal before ∙ sym (same-pending bs (rows_from w 0 h))

  pub sorting-is : sorting_at w h (slots_for max_reaches bs []) rows before
      ≡ record {
        number = 0;
        steps = length taken;
        counts = length (slow_counts_held bs (rows_from w 0 h));
        reaches = 0;
        pending = length (slow_pending_held bs (rows_from w 0 h));
      }
  unfolding sorting_at
  sorting-is = rw (steps-are, counts-are, pending-are) refl
