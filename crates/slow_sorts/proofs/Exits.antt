-- What the slow sorter gives and leaves of an update that was read: the slow order with its reports, or what the vector's refusal leaves.
use Prim.Native.Nat.{ℕ, ◌/◌, ◌≤◌}
use mathlib.Core.Path.{◌≡◌, refl, ap, ◌∙◌}
use mathlib.Core.Bool.{Bool, true, false}
use mathlib.Core.List.{List}
use native.Mathlib.Omega.{arith}
use lib.Dec.{eqb}
use lib.ListN.{length, take, replicate, length-replicate, get_or-replicate}
use Rattle.numbers.specs.Number.{pick}
use Rattle.block.specs.declared.Block.{Block}
use Rattle.grammar.specs.Course.{things}
use Rattle.vector.specs.Vector.{Entry, clients_in, vector_of}
use Rattle.kept.proofs.Vectors.{why_vector, by_number}
use Rattle.slots.specs.Slots.{Slot, slot}
use Rattle.picker.specs.Picker.{nowhere as no_row}
use Rattle.picker.proofs.FrontLaws.{length-filled, filled-reach}
use Rattle.reports.specs.Reports.{fitted}
use Rattle.sorting.specs.Named.{rule_of}
use Rattle.sorting.specs.Slow.{slow_order_of, slow_counts_of, slow_reaches_of, slow_pending_of}
use Rattle.sorter.specs.Sorter.{slots_for, max_reaches, reaches_at}
use Rattle.updates.specs.Promises.{Reading, reading, table_of}
use Rattle.updates.proofs.Read.{rows-length, rows_back}
use Rattle.slow_sorter.specs.Slowly.{sorting_by, Left, board_on, reports_on, swept_on, unswept, swept_read}
use Rattle.swept.specs.Swept.{Swept}
use Rattle.swept.proofs.Stands.{Given}
use Rattle.swept.proofs.Reported.{swept-outcome}
use Rattle.sorts.proofs.Answers.{Fair, overlaid-fitted, is-slotted, few, sortable}
use Rattle.sorts.proofs.Exits.{read-fair}
use Rattle.sorts.proofs.Ways.{Gives}
use Rattle.slow_sorts.specs.Promises.{slowly}

-- ---- blocks that were read, swept against the entries of a vector

module _ (rule : ℕ) (u : List ℕ) (bs : List Block) (v : List Entry) (fair : Fair u bs v) (rows : List Block) (back : take (length bs) rows ≡ bs)
    (short : length rows ≤ no_row) (order counts reaches pending : List ℕ) where
  abbrev ss : List Slot
  ss = slots_for max_reaches bs (clients_in v)

  given : Given bs v ss rows
  given = record { slotted = is-slotted rule u bs v fair; sortable = sortable rule u bs v fair; back = back; short = short }

  came : Swept rule bs v ss rows order (board_on rule ss rows v order)
  unfolding board_on reaches_at
  came =
      let n : length (replicate {A = ℕ} max_reaches 0) ≡ max_reaches = length-replicate {A = ℕ} max_reaches 0 in
      let small = few rule u bs v fair in
      swept-outcome rule given (reaches_at ss v) (replicate max_reaches 0) order (omega (arith, length-filled v 0 ss (replicate max_reaches 0), small), omega (arith, small))
      (λ i h. filled-reach v ss (replicate max_reaches 0) (slot 0 0 0) i h (omega (arith, small))) (λ i h. get_or-replicate {A = ℕ} max_reaches i 0 0 (omega (arith, small)))

  -- what is left
  abbrev left : Left
  left =
      record {
        sorting = sorting_by (length (slow_order_of (rule_of rule) bs v)) (length (slow_counts_of (rule_of rule) bs v)) (length (slow_reaches_of (rule_of rule) bs v))
            (length (slow_pending_of (rule_of rule) bs v));
        order = fitted (length order) (slow_order_of (rule_of rule) bs v);
        counts = fitted (length counts) (slow_counts_of (rule_of rule) bs v);
        reaches = fitted (length reaches) (slow_reaches_of (rule_of rule) bs v);
        pending = fitted (length pending) (slow_pending_of (rule_of rule) bs v);
      }

  pub left_is : swept_on rule ss rows v order counts reaches pending ≡ left
  unfolding swept_on reports_on
  left_is =
      rw (came.steps, came.order, came.counts, came.reaches, came.pending, overlaid-fitted order (slow_order_of (rule_of rule) bs v)) refl

-- ---- an update of a form and a vector

module _ (rule form : ℕ) (u v : List ℕ) (rows₀ : List Block) (ranges₀ order₀ counts₀ reaches₀ pending₀ : List ℕ) (short : length rows₀ ≤ no_row) where
  abbrev M : ℕ
  M = length rows₀

  abbrev N : ℕ
  N = length ranges₀

  abbrev R : Reading
  R = reading form u M (N / 3)

  abbrev es : List Entry
  es = things (vector_of v)

  abbrev bs : List Block
  bs = R.blocks

  abbrev L : Left
  L = swept_read rule (vector_of v) (table_of M R) (length bs) order₀ counts₀ reaches₀ pending₀

  abbrev w : ℕ
  w = why_vector v

  read_is : L ≡ pick (eqb w 0)
      (left rule u bs es (read-fair form u v M (N / 3)) (table_of M R) (rows_back form u M N) (omega (arith, short, rows-length form u M N)) order₀ counts₀ reaches₀ pending₀)
      (unswept w order₀ counts₀ reaches₀ pending₀)
  unfolding swept_read
  read_is =
      rw (
        rows_back form u M N,
        left_is rule u bs es (read-fair form u v M (N / 3)) (table_of M R) (rows_back form u M N) (omega (arith, short, rows-length form u M N)) order₀ counts₀ reaches₀ pending₀,
      )
      (by_number v _ (λ n. unswept n order₀ counts₀ reaches₀ pending₀))

  -- a field of what is left
  part : {X : Type 0} (f : Left → X) (b : Bool) (l k : Left) → f (pick b l k) ≡ pick b (f l) (f k)
  part f true l k = refl
  part f false l k = refl

  pub gives : Gives slowly rule form u v rows₀ ranges₀ order₀ counts₀ reaches₀ pending₀ L.sorting L.order L.counts L.reaches L.pending
  unfolding unswept
  gives = record {
    sorting = ap (λ (l : Left). l.sorting) read_is ∙ part (λ (l : Left). l.sorting) (eqb w 0) _ _;
    order = ap (λ (l : Left). l.order) read_is ∙ part (λ (l : Left). l.order) (eqb w 0) _ _;
    counts = ap (λ (l : Left). l.counts) read_is ∙ part (λ (l : Left). l.counts) (eqb w 0) _ _;
    reaches = ap (λ (l : Left). l.reaches) read_is ∙ part (λ (l : Left). l.reaches) (eqb w 0) _ _;
    pending = ap (λ (l : Left). l.pending) read_is ∙ part (λ (l : Left). l.pending) (eqb w 0) _ _;
  }
