-- What the slow plain sorter by held ids gives and leaves of an update and held ids that were read: the slow order with its reports.
use Prim.Native.Nat.{ℕ, ◌/◌, ◌≤◌}
use mathlib.Core.Path.{◌≡◌, refl, ap, ◌∙◌}
use mathlib.Core.Bool.{false}
use mathlib.Core.List.{List, []}
use native.Mathlib.Omega.{arith}
use lib.ListN.{length, take}
use Rattle.block.specs.declared.Block.{Block}
use Rattle.picker.specs.Picker.{nowhere as no_row}
use Rattle.reports.specs.Reports.{fitted}
use Rattle.slots.specs.Slots.{Slot}
use Rattle.sorter.specs.Sorter.{slots_for, max_reaches}
use Rattle.updates.specs.Promises.{Reading, reading, answer, table_of}
use Rattle.updates.proofs.Read.{rows-length, rows_back}
use Rattle.slow_held_sorter.specs.SlowHeld.{sorting_at, order_by, counts_by, pending_by}
use Rattle.held_swept.proofs.Answers.{order_is, counts-are, pending-are, sorting-is}
use Rattle.held_answers.specs.declared.HeldRead.{HeldRead}
use Rattle.held_answers.specs.AnswersInner.{read_held, words_given}
use Rattle.slow_held_sorts.specs.Promises.{slowly}
use Rattle.held_sorts.proofs.Ways.{back, is_normal, fine, Gives}

module _ (form : ℕ) (u v : List ℕ) (rows₀ : List Block) (ranges₀ given₀ order₀ counts₀ pending₀ : List ℕ) where
  abbrev M : ℕ
  M = length rows₀

  abbrev N : ℕ
  N = length ranges₀

  abbrev R : Reading
  R = reading form u M (N / 3)

  abbrev G : HeldRead
  G = read_held v (length given₀)

  abbrev W : List ℕ
  W = words_given v (length given₀)

  abbrev rows : List Block
  rows = table_of M R

  abbrev n : ℕ
  n = (answer R).blocks

  abbrev ss : List Slot
  ss = slots_for max_reaches (take n rows) []

  module _ (z : R.refusal.number ≡ 0) (y : G.refused ≡ false) (short : M ≤ no_row) where
    small : length rows ≤ no_row
    small = omega (arith, short, rows-length form u M N)

    pub gives : Gives slowly form u v rows₀ ranges₀ given₀ order₀ counts₀ pending₀ z y (sorting_at W G.ranges ss rows order₀) (order_by W G.ranges ss rows order₀)
        (fitted (length counts₀) (counts_by W G.ranges ss rows order₀)) (fitted (length pending₀) (pending_by W G.ranges ss rows order₀))
    unfolding answer
    gives =
        let bs : List Block = R.blocks in
        let held = back slowly form u v rows₀ ranges₀ given₀ order₀ counts₀ pending₀ z y in
        let fit = fine slowly form u v rows₀ ranges₀ given₀ order₀ counts₀ pending₀ z y in
        let norm = is_normal slowly form u v rows₀ ranges₀ given₀ order₀ counts₀ pending₀ z y in
        let kept = rows_back form u M N in
        record {
          sorting = rw kept (sorting-is bs fit rows kept small W G.ranges norm order₀ ∙ rw held refl);
          order = rw kept (order_is bs fit rows kept small W G.ranges norm order₀ ∙ rw held refl);
          counts = rw kept (ap (fitted (length counts₀)) (counts-are bs fit rows kept small W G.ranges norm order₀) ∙ rw held refl);
          pending = rw kept (ap (fitted (length pending₀)) (pending-are bs fit rows kept small W G.ranges norm order₀) ∙ rw held refl);
        }
