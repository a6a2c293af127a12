-- What `sort` gives and leaves of an update that was read: what the order of highest clients has, or what the vector's refusal leaves.
use Prim.Native.Nat.{ℕ, ◌/◌, ◌≤◌}
use mathlib.Core.Path.{◌≡◌}
use mathlib.Core.List.{List}
use native.Mathlib.Omega.{arith}
use lib.Dec.{eqb}
use lib.ListN.{length}
use Rattle.numbers.specs.Number.{pick}
use Rattle.block.specs.declared.Block.{Block}
use Rattle.grammar.specs.Course.{things}
use Rattle.vector.specs.Vector.{Entry, vector_of}
use Rattle.vector.proofs.Clients.{vector-most}
use Rattle.kept.proofs.Vectors.{vector-clocks, why_vector, by_number}
use Rattle.picker.specs.Picker.{nowhere as no_row}
use Rattle.reports.specs.Reports.{fitted}
use Rattle.sorting.specs.Named.{rule_of}
use Rattle.sorting.specs.Sorted.{order_of, counts_of, reaches_of, pending_of}
use Rattle.sorter.specs.declared.Sorting.{Sorting}
use Rattle.sorter.specs.Sorter.{no_sorting}
use Rattle.sorter.specs.Sorter.{sorting_read, order_read, counts_read, reaches_read, pending_read}
use Rattle.updates.specs.Promises.{Reading, reading, table_of}
use Rattle.updates.proofs.Read.{reading-good, rows-length, rows_back}
use Rattle.sorts.specs.Promises.{quickly}
use Rattle.sorts.proofs.Answers.{Fair, counts-are, reaches-are, pending-are, order_is, sorting-is}
use Rattle.sorts.proofs.Ways.{Gives}

-- blocks that were read and the entries of a vector are within the limits
pub read-fair : (form : ℕ) (u v : List ℕ) (block_rows range_rows : ℕ) → Fair u (reading form u block_rows range_rows).blocks (things (vector_of v))
read-fair form u v block_rows range_rows =
    let good = reading-good form u block_rows range_rows in
    record { ordered = good.ordered; sound = good.sound; count = good.count; owners = good.clients; entries = vector-most v; clocks = vector-clocks v }

module _ (rule form : ℕ) (u v : List ℕ) (rows₀ : List Block) (ranges₀ order₀ counts₀ reaches₀ pending₀ : List ℕ) (short : length rows₀ ≤ no_row) where
  abbrev M : ℕ
  M = length rows₀

  abbrev N : ℕ
  N = length ranges₀

  abbrev R : Reading
  R = reading form u M (N / 3)

  abbrev es : List Entry
  es = things (vector_of v)

  abbrev bs : List Block
  bs = R.blocks

  abbrev w : ℕ
  w = why_vector v

  abbrev S : Sorting
  S = sorting_read rule (vector_of v) (table_of M R) (length R.blocks) order₀

  abbrev O : List ℕ
  O = order_read rule (vector_of v) (table_of M R) (length R.blocks) order₀

  abbrev C : List ℕ
  C = counts_read rule (vector_of v) (table_of M R) (length R.blocks) order₀ counts₀

  abbrev P : List ℕ
  P = reaches_read rule (vector_of v) (table_of M R) (length R.blocks) order₀ reaches₀

  abbrev Q : List ℕ
  Q = pending_read rule (vector_of v) (table_of M R) (length R.blocks) order₀ pending₀

  fair : Fair u bs es
  fair = read-fair form u v M (N / 3)

  small : length (table_of M R) ≤ no_row
  small = omega (arith, short, rows-length form u M N)

  abbrev made : Sorting
  made =
      record {
        number = 0;
        steps = length (order_of (rule_of rule) bs es);
        counts = length (counts_of (rule_of rule) bs es);
        reaches = length (reaches_of (rule_of rule) bs es);
        pending = length (pending_of (rule_of rule) bs es);
      }

  sorting-at : S ≡ pick (eqb w 0) made (no_sorting w)
  unfolding sorting_read
  sorting-at = rw (rows_back form u M N, sorting-is rule u bs es fair (table_of M R) (rows_back form u M N) small order₀) (by_number v made no_sorting)

  order-at : O ≡ pick (eqb w 0) (fitted (length order₀) (order_of (rule_of rule) bs es)) order₀
  unfolding order_read
  order-at =
      rw (rows_back form u M N, order_is rule u bs es fair (table_of M R) (rows_back form u M N) small order₀)
      (by_number v (fitted (length order₀) (order_of (rule_of rule) bs es)) (λ n. order₀))

  counts-at : C ≡ pick (eqb w 0) (fitted (length counts₀) (counts_of (rule_of rule) bs es)) counts₀
  unfolding counts_read
  counts-at =
      rw (rows_back form u M N, counts-are rule u bs es fair (table_of M R) (rows_back form u M N) small order₀)
      (by_number v (fitted (length counts₀) (counts_of (rule_of rule) bs es)) (λ n. counts₀))

  reaches-at : P ≡ pick (eqb w 0) (fitted (length reaches₀) (reaches_of (rule_of rule) bs es)) reaches₀
  unfolding reaches_read
  reaches-at =
      rw (rows_back form u M N, reaches-are rule u bs es fair (table_of M R) (rows_back form u M N) small order₀)
      (by_number v (fitted (length reaches₀) (reaches_of (rule_of rule) bs es)) (λ n. reaches₀))

  pending-at : Q ≡ pick (eqb w 0) (fitted (length pending₀) (pending_of (rule_of rule) bs es)) pending₀
  unfolding pending_read
  pending-at =
      rw (rows_back form u M N, pending-are rule u bs es fair (table_of M R) (rows_back form u M N) small order₀)
      (by_number v (fitted (length pending₀) (pending_of (rule_of rule) bs es)) (λ n. pending₀))

  pub gives : Gives quickly rule form u v rows₀ ranges₀ order₀ counts₀ reaches₀ pending₀ S O C P Q
  gives = record { sorting = sorting-at; order = order-at; counts = counts-at; reaches = reaches-at; pending = pending-at }
