-- What the slow sorter's functions come to: slots in words, and the same against a vector that was read.
use Rattle.std.specs.Prelude.{Ok, Err}
use Prim.Native.Nat.{ℕ, zero, suc, ◌-◌, ◌*◌, ◌/◌, ◌≤◌}
use mathlib.Core.Path.{◌≡◌, refl, sym, ap, ◌∙◌}
use mathlib.Core.Bool.{Bool, true, false}
use mathlib.Core.List.{List, ◌++◌}
use native.Mathlib.Omega.{arith}
use lib.Dec.{ltb}
use lib.ListN.{length, take, replicate, length-replicate}
use Rattle.numbers.specs.declared.Refusal.{Refusal}
use Rattle.numbers.specs.Number.{pick}
use Rattle.numbers.specs.Output.{padded}
use Rattle.block.specs.declared.Block.{Block}
use Rattle.grammar.specs.Course.{Course}
use Rattle.vector.specs.Vector.{Entry, clients_in}
use Rattle.vector.specs.VectorInner.{clocks_in, kept}
use Rattle.vector.specs.VectorInner as vector-inner
use Rattle.kept.specs.Plan.{entries_of}
use Rattle.kept.proofs.VectorRead.{was-refused}
use Rattle.slots.specs.Slots.{Slot, slots_from, stored, Falling}
use Rattle.picker.specs.Fronts.{filled_from}
use Rattle.picker.specs.Picker.{nowhere}
use Rattle.reports.specs.Reports.{reaches_from, fitted}
use Rattle.sorter.specs.Sorter.{slots_for, max_reaches, slot_words, reaches_at, cleared, no_sorting}
use Rattle.sorter.proofs.Exits.{held_asks, held_fits, held-is, by_read}
use Rattle.sweeper.specs.Sweeper.{Board, board, swept, swept_by, left_below, swept_all}
use Rattle.sweeper.proofs.Sweeps.{sweep-room}
use Rattle.sweep_reports.specs.Reports.{taken_from, waits_from}
use Rattle.slow_sorter.specs.Slowly.{sorting_by, Left, Leaves, board_on, reports_on, swept_on, unswept, swept_read}

-- what is left, as it is
pub leaves : (l k : Left) → l ≡ k → Leaves k l.sorting l.order l.counts l.reaches l.pending
leaves l k e = (
  ap (λ (x : Left). x.sorting) e,
  ap (λ (x : Left). x.order) e,
  ap (λ (x : Left). x.counts) e,
  ap (λ (x : Left). x.reaches) e,
  ap (λ (x : Left). x.pending) e,
)

-- ---- all sweeps, and the reports

-- the counts are as many as they were
module _ (rule : ℕ) (ss : List Slot) (rows : List Block) (short : length rows ≤ nowhere) where
  by-room : (k : ℕ) (d : Board) → length (swept_by k rule ss rows d).taken ≡ length d.taken
  unfolding swept_by
  by-room zero d = refl
  by-room (suc k) d = go (ltb d.steps (swept rule ss rows d).steps) (by-room k (swept rule ss rows d)) (sweep-room rule ss rows short d)
    where
      go : (x : Bool) → length (swept_by k rule ss rows (swept rule ss rows d)).taken ≡ length (swept rule ss rows d).taken
          → length (swept rule ss rows d).taken ≡ length d.taken
          → length (pick x (swept_by k rule ss rows (swept rule ss rows d)) (swept rule ss rows d)).taken ≡ length d.taken
      go true e f = e ∙ f
      go false e f = f

  pub all_room : (d : Board) → length (swept_all rule ss rows d).taken ≡ length d.taken
  unfolding swept_all
  all_room d = by-room (suc (left_below ss d.taken (length ss))) d

module _ (rule : ℕ) (ss : List Slot) (rows : List Block) (v : List Entry) (order counts reaches pending : List ℕ) where
  abbrev d : Board
  d = swept_all rule ss rows (board (filled_from 0 ss v (replicate max_reaches 0)) (replicate max_reaches 0) order 0)

  pub exit-slots : Leaves (swept_on rule ss rows v order counts reaches pending)
      (sorting_by d.steps (length (taken_from 0 ss d.taken)) (length (reaches_from 0 ss d.reach)) (length (waits_from 0 rule ss rows d.reach d.taken ss)))
      (take d.steps d.order ++ replicate (length d.order - d.steps) 0) (fitted (length counts) (taken_from 0 ss d.taken))
      (fitted (length reaches) (reaches_from 0 ss d.reach)) (fitted (length pending) (waits_from 0 rule ss rows d.reach d.taken ss))
  unfolding swept_on reports_on board_on reaches_at cleared
  exit-slots = (refl, refl, refl, refl, refl)

-- ---- the words of slots

module _ (rule : ℕ) (rows : List Block) (blocks : ℕ) (names : List ℕ) (v : List Entry) (order counts reaches pending : List ℕ) where
  abbrev zeros : List ℕ
  zeros = replicate slot_words 0

  abbrev found : List Slot
  found = slots_for (length zeros / 3) (take blocks rows) names

  pub kept-asks : (3 * length found ≤ length (stored zeros found)) × Falling (slots_from (stored zeros found) 0 (length found)) × (length found ≤ max_reaches)
  kept-asks =
      let h = held_asks zeros (take blocks rows) names in
      let z : length zeros ≡ slot_words = length-replicate {A = ℕ} slot_words 0 in
      (h.0, h.1, omega (arith, held_fits zeros (take blocks rows) names))

  pub exit-kept : let l = swept_on rule (slots_from (stored zeros found) 0 (length found)) rows v order counts reaches pending in
      Leaves (swept_on rule (slots_for max_reaches (take blocks rows) names) rows v order counts reaches pending) l.sorting l.order l.counts l.reaches l.pending
  exit-kept = leaves _ _ (ap (λ (ss : List Slot). swept_on rule ss rows v order counts reaches pending) (held-is rows blocks names))

-- ---- a vector that was read, or refused

module _ (rule : ℕ) (c : Course Entry) (rows : List Block) (blocks : ℕ) (order counts reaches pending : List ℕ) where
  abbrev by : List ℕ → List Entry → Left
  by ns v = swept_on rule (slots_for max_reaches (take blocks rows) ns) rows v order counts reaches pending

  pub exit_read : (m k : ℕ) → vector-inner.entries_of c ≡ Ok m
      → let l = by (take m (padded k (clients_in (kept c)))) (entries_of m (padded k (clients_in (kept c))) (padded k (clocks_in (kept c)))) in
      Leaves (swept_read rule c rows blocks order counts reaches pending) l.sorting l.order l.counts l.reaches l.pending
  unfolding swept_read
  exit_read m k e = leaves _ _ (by_read c m k e by (λ why. unswept why.number order counts reaches pending))

  pub exit-refused : (why : Refusal) → vector-inner.entries_of c ≡ Err why
      → Leaves (swept_read rule c rows blocks order counts reaches pending) (no_sorting why.number) order counts reaches pending
  unfolding swept_read unswept
  exit-refused why e = leaves (unswept why.number order counts reaches pending) _
      (sym (was-refused c why e _ (λ r. unswept r.number order counts reaches pending)))
