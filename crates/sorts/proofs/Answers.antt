-- What the sorter gives and leaves, of blocks that were read and the entries of a vector: the order, and the reports on the one outcome of sorting.
use Prim.Native.Nat.{ℕ, ◌+◌, ◌≤◌}
use mathlib.Core.Path.{◌≡◌, refl}
use mathlib.Core.List.{List}
use native.Mathlib.Omega.{arith}
use lib.ListN.{length, take, replicate, length-replicate}
use Rattle.numbers.specs.Limits.{max_clock, max_clients, max_blocks}
use Rattle.block.specs.declared.Block.{Block}
use Rattle.vector.specs.Vector.{Entry, clients_in}
use Rattle.readings.specs.Sound.{owner, All}
use Rattle.readings.specs.SoundInner.{Sound, Ordered}
use Rattle.readings.specs.Groups.{groups}
use Rattle.readings.proofs.Groups.{all_map}
use Rattle.slots.specs.Slots.{Slot, slot}
use Rattle.picker.specs.Picker.{Desk, nowhere}
use Rattle.picker.proofs.FrontLaws.{length-opened, opened-front, length-filled, filled-reach}
use Rattle.reports.specs.Reports.{fitted}
use Rattle.sorting.specs.Rules.{Rule}
use Rattle.sorting.specs.Named.{rule_of}
use Rattle.sorting.specs.Sorted.{outcome_of, order_of, counts_of, reaches_of, pending_of}
use Rattle.outcome.specs.Tie.{Slotted, Sortable, Opened, overlaid}
use Rattle.outcome.specs.Came.{Came}
use Rattle.outcome.proofs.Overlay.{overlaid-front, overlaid-length}
use Rattle.outcome.proofs.Slotted.{slotted, slots-most}
use Rattle.outcome.proofs.Picked.{picked-outcome}
use Rattle.outcome.proofs.Reported.{counts-reported, reaches-reported, pending-reported}
use Rattle.sorter.specs.Sorter.{slots_for, max_reaches, front_words, reaches_at, fronts_at, desk_on, counts_on, reaches_on, pending_on, cleared, order_on, sorting_of, sorting_on}

-- ---- words overlaid by others, and cleared after them, are as many of them as fit

pub overlaid-fitted : (w ws : List ℕ) → cleared (overlaid w ws) (length ws) ≡ fitted (length w) ws
unfolding cleared fitted
overlaid-fitted w ws = rw (overlaid-front w ws, overlaid-length w ws) refl

-- ---- blocks and entries within the limits

pub record Fair (u : List ℕ) (bs : List Block) (v : List Entry) : Type 0 where
  pub ordered : Ordered bs
  pub sound : All (Sound u) bs
  pub count : length bs ≤ max_blocks
  pub owners : length (groups owner bs) ≤ max_clients
  pub entries : length v ≤ max_clients
  pub clocks : All (λ (e : Entry). e.clock ≤ max_clock) v

module _ (rule : ℕ) (u : List ℕ) (bs : List Block) (v : List Entry) (fair : Fair u bs v) where
  abbrev R : Rule ℕ
  R = rule_of rule

  abbrev ss : List Slot
  ss = slots_for max_reaches bs (clients_in v)

  pub is-slotted : Slotted bs v ss
  unfolding slots_for
  is-slotted = slotted bs v max_reaches fair.owners fair.entries (omega arith) fair.count

  pub few : length ss ≤ max_reaches
  few = omega (arith, slots-most bs v ss is-slotted fair.owners fair.entries)

  pub sortable : Sortable bs
  sortable =
      record {
        ordered = fair.ordered;
        ends = all_map (Sound u) (λ (b : Block). b.clock + b.length.0 ≤ max_clock) (λ b h. h.end) bs fair.sound;
        few = fair.count;
      }

  is-opened : Opened v ss (reaches_at ss v) (fronts_at ss)
  unfolding reaches_at fronts_at
  is-opened =
      let n : length (replicate {A = ℕ} max_reaches 0) ≡ max_reaches = length-replicate {A = ℕ} max_reaches 0 in
      let m : length (replicate {A = ℕ} front_words 0) ≡ front_words = length-replicate {A = ℕ} front_words 0 in
      record {
        room = (omega (arith, length-filled v 0 ss (replicate max_reaches 0), few), omega (arith, length-opened 0 ss (replicate front_words 0), few));
        reaches = λ i h. filled-reach v ss (replicate max_reaches 0) (slot 0 0 0) i h (omega (arith, few));
        begun = λ i h. opened-front ss (replicate front_words 0) (slot 0 0 0) i h (omega (arith, few));
      }

  -- ---- the sorter's looks at the rows that hold the blocks

  module _ (rows : List Block) (back : take (length bs) rows ≡ bs) (short : length rows ≤ nowhere) (before : List ℕ) where
    abbrev d : Desk
    d = desk_on rule ss rows (length bs) v before

    came : Came rule bs v ss before d
    unfolding desk_on
    came = picked-outcome rule u bs rows v ss (reaches_at ss v) (fronts_at ss) before back short sortable fair.sound fair.clocks is-slotted is-opened

    pub counts-are : counts_on rule ss rows (length bs) v before ≡ counts_of R bs v
    unfolding counts_on counts_of
    counts-are = counts-reported rule bs v ss is-slotted (outcome_of R bs v) d.reach d.fronts came.ended

    pub reaches-are : reaches_on rule ss rows (length bs) v before ≡ reaches_of R bs v
    unfolding reaches_on reaches_of
    reaches-are = reaches-reported rule bs v ss is-slotted (outcome_of R bs v) d.reach d.fronts came.ended

    pub pending-are : pending_on rule ss rows (length bs) v before ≡ pending_of R bs v
    unfolding pending_on pending_of
    pending-are = pending-reported rule bs v ss is-slotted (outcome_of R bs v) d.reach d.fronts came.ended

    steps-are : d.at.steps ≡ length (order_of R bs v)
    steps-are = came.steps

    pub order_is : order_on rule ss rows (length bs) v before ≡ fitted (length before) (order_of R bs v)
    unfolding order_on
    order_is = rw (steps-are, came.order) (overlaid-fitted before (order_of R bs v))

    pub sorting-is : sorting_on rule ss rows (length bs) v before
        ≡ record {
          number = 0;
          steps = length (order_of R bs v);
          counts = length (counts_of R bs v);
          reaches = length (reaches_of R bs v);
          pending = length (pending_of R bs v);
        }
    unfolding sorting_on sorting_of
    sorting-is = rw (steps-are, counts-are, reaches-are, pending-are) refl
