-- The looks at the rows by number come to the outcome of sorting by held ids.
use Prim.Native.Nat.{ℕ, ◌+◌, ◌≤◌, ◌<◌}
use mathlib.Core.Path.{◌≡◌, sym, ap, subst, ◌∙◌}
use mathlib.Core.Bool.{Bool, true, false, ◌||◌}
use mathlib.Core.List.{List, []}
use native.Mathlib.Omega.{arith}
use lib.Dec.{ltb}
use lib.ListN.{length, get_or, take, replicate, length-replicate, get_or-replicate}
use Rattle.numbers.specs.Limits.{max_clock, max_clients, max_blocks}
use Rattle.block.specs.declared.Id.{Id}
use Rattle.block.specs.declared.Block.{Block}
use Rattle.block.specs.Row.{left_id, right_id, parent_id}
use Rattle.ranges.specs.RangesInner.{Normal}
use Rattle.ranges.specs.TableInner.{rows_from}
use Rattle.kept.specs.Kept.{remote}
use Rattle.readings.specs.Sound.{owner, All}
use Rattle.readings.specs.SoundInner.{Ordered}
use Rattle.readings.specs.Groups.{groups}
use Rattle.slots.specs.Slots.{Slot, slot}
use Rattle.picker.specs.Picker.{Desk, nowhere, all_picked}
use Rattle.picker.proofs.FrontLaws.{length-opened, opened-front}
use Rattle.sorting.specs.Rules.{queue, below}
use Rattle.sorting.specs.Rule28Inner.{rule28}
use Rattle.sorting.specs.Named.{asks_of, rule_of}
use Rattle.sorting.specs.Sorted.{outcome, block_numbers_from, counts_in, outcome_of, order_of}
use Rattle.sorting.specs.Held.{rule_held, held_in, owners, order_held, counts_held}
use Rattle.outcome.specs.Tie.{slot_of, Slotted, Sortable, Opened}
use Rattle.outcome.specs.Came.{Came}
use Rattle.outcome.proofs.Asked.{Clocks}
use Rattle.outcome.proofs.Slotted.{slotted, slots-most}
use Rattle.outcome.proofs.Picked.{picked-clocks}
use Rattle.outcome.proofs.Reported.{counts-reported}
use Rattle.sorter.specs.Sorter.{slots_for, max_reaches, front_words, fronts_at}
use Rattle.placing.specs.Placing.{first_of}
use Rattle.numbered.specs.Numbered.{holder, placed, by_number, numbered_from}
use Rattle.numbered.proofs.Holders.{queue-chain, holder-low}
use Rattle.numbered.proofs.Blocks.{numbered-length, numbered-clients, numbered-numbers, numbered-queue, first-le, numbered-ordered, numbered-all}
use Rattle.numbered.proofs.Numbered.{queue-short, Same, met-same, same-order, same_end, same-counts}
use Rattle.held_sorter.specs.HeldSorter.{numbered_in, desk_by, counts_by}
use Rattle.held_sorter.proofs.Exits.{long}
use Rattle.held_outcome.proofs.Ranges.{held-is}
use Rattle.held_outcome.proofs.Rows.{place_is, first_some}
use Rattle.held_outcome.proofs.Placed.{gone, place, rows-numbered}

-- blocks within the limits, as a reader makes sure
pub record Fit (bs : List Block) : Type 0 where
  pub ordered : Ordered bs
  pub count : length bs ≤ max_blocks
  pub groups : length (groups owner bs) ≤ max_clients

-- these rows hold the blocks, and h ranges in these words are in normal form
module _ (bs : List Block) (fit : Fit bs) (rows : List Block) (back : take (length bs) rows ≡ bs) (short : length rows ≤ nowhere) (w : List ℕ) (h : ℕ)
    (normal : Normal (rows_from w 0 h)) where
  abbrev pub ss : List Slot
  ss = slots_for max_reaches bs []

  abbrev pub held : Id → ℕ
  held = held_in (rows_from w 0 h)

  pub is-slotted : Slotted bs [] ss
  unfolding slots_for
  is-slotted = slotted bs [] max_reaches fit.groups (omega arith) (omega arith) fit.count

  few : length ss ≤ max_reaches
  few = omega (arith, slots-most bs [] ss is-slotted fit.groups (omega arith))

  abbrev pub is-gone : Id → Bool
  is-gone = gone w h ss rows

  abbrev pub placed_at : Id → ℕ
  placed_at = place w h ss rows

  abbrev pub ns : List Block
  ns = numbered_from is-gone placed_at (first_of ss) 0 bs

  pub gone-is : (d : Id) → is-gone d ≡ ltb 0 (held d)
  gone-is d = held-is w h normal d

  pub firsts : (c : ℕ) → 0 < length (queue bs c) → first_of ss c ≡ get_or (block_numbers_from 0 bs c) 0 0
  firsts c some = first_some is-slotted fit.ordered fit.count rows back c some 0

  pub places : (d : Id) → placed_at d ≡ holder (queue bs d.client) d.clock
  places d = place_is is-slotted fit.ordered fit.count rows back d.client d.clock

  -- ---- the numbered blocks are within the limits, and have the same slots

  pub size : length ns ≡ length bs
  size = numbered-length is-gone placed_at (first_of ss) 0 bs

  placed-low : (x : Bool) (d : Id) → (placed is-gone placed_at x d).clock ≤ max_clock
  unfolding placed
  placed-low true d = rw (places d)
      (holder-low (queue bs d.client) (queue-chain bs d.client fit.ordered) (omega (arith, queue-short bs d.client, fit.count)) d)
  placed-low false d = omega arith

  pub sortable : Sortable ns
  unfolding by_number
  sortable = record {
    ordered = numbered-ordered is-gone placed_at (first_of ss) 0 bs
        (λ x l. omega (arith, first-le is-gone placed_at (first_of ss) bs fit.ordered firsts x l)) fit.ordered;
    ends = numbered-all is-gone placed_at (first_of ss) (λ (b : Block). b.clock + b.length.0 ≤ max_clock) max_blocks (λ k b l. omega arith) 0 bs (omega (arith, fit.count));
    few = omega (arith, size, fit.count);
  }

  clocks : All Clocks ns
  unfolding by_number
  clocks = numbered-all is-gone placed_at (first_of ss) Clocks max_blocks
      (λ k b l. (omega arith, placed-low _ (left_id b), placed-low _ (right_id b), placed-low _ (parent_id b))) 0 bs (omega (arith, fit.count))

  pub slotted-so : Slotted ns [] ss
  slotted-so = record {
    falling = is-slotted.falling;
    names = is-slotted.names ∙ sym (numbered-clients is-gone placed_at (first_of ss) bs []);
    counts = λ i l. is-slotted.counts i l ∙ sym (numbered-queue is-gone placed_at (first_of ss) bs (slot_of ss i).client);
    firsts = λ i l g. is-slotted.firsts i l g ∙ ap (λ (xs : List ℕ). get_or xs 0 0) (sym (numbered-numbers is-gone placed_at (first_of ss) 0 0 bs (slot_of ss i).client));
  }

  opened : Opened [] ss (replicate max_reaches 0) (fronts_at ss)
  unfolding fronts_at remote
  opened =
      let n : length (replicate {A = ℕ} max_reaches 0) ≡ max_reaches = length-replicate {A = ℕ} max_reaches 0 in
      let m : length (replicate {A = ℕ} front_words 0) ≡ front_words = length-replicate {A = ℕ} front_words 0 in
      record {
        room = (omega (arith, few), omega (arith, length-opened 0 ss (replicate front_words 0), few));
        reaches = λ i l. get_or-replicate {A = ℕ} max_reaches i 0 0 (omega (arith, few));
        begun = λ i l. opened-front ss (replicate front_words 0) (slot 0 0 0) i l (omega (arith, few));
      }

  pub agree : take (length ns) (numbered_in w h ss rows) ≡ ns
  agree = subst (λ (n : ℕ). take n (numbered_in w h ss rows) ≡ ns) (sym size) (rows-numbered w h ss rows 0 rows bs back (omega (arith, fit.count)))

  module _ (before : List ℕ) where
    abbrev pub d : Desk
    d = desk_by w h ss rows (length bs) before

    pub came : Came 28 ns [] ss before d
    unfolding desk_by
    came = subst (λ (n : ℕ). Came 28 ns [] ss before (all_picked 28 ss (numbered_in w h ss rows) n (replicate max_reaches 0) (fronts_at ss) before)) size
        (picked-clocks 28 ns (numbered_in w h ss rows) [] ss (replicate max_reaches 0) (fronts_at ss) before
        agree (omega (arith, long w h ss rows)) sortable clocks tt slotted-so opened)

  -- ---- the order and the counts

  pub end : Same bs fit.ordered fit.count held is-gone gone-is placed_at places (first_of ss) firsts (outcome rule_held bs (owners bs) held) (outcome_of rule28 ns [])
  end = same_end bs fit.ordered fit.count held is-gone gone-is placed_at places (first_of ss) firsts

  pub met : (d : Id) → ltb 0 ((outcome rule_held bs (owners bs) held).known d)
      ≡ (is-gone d || below (outcome_of rule28 ns []).known (record { client = d.client; clock = placed_at d }))
  met = met-same bs fit.ordered fit.count held is-gone gone-is placed_at places (first_of ss) firsts (outcome rule_held bs (owners bs) held) (outcome_of rule28 ns []) end

  pub order-so : order_of (rule_of 28) ns [] ≡ order_held bs (rows_from w 0 h)
  unfolding order_held asks_of
  order-so = sym (same-order bs fit.ordered fit.count held is-gone gone-is placed_at places (first_of ss) firsts)

  pub counts-so : (before : List ℕ) → counts_by w h ss rows (length bs) before ≡ counts_held bs (rows_from w 0 h)
  unfolding counts_by counts_held asks_of
  counts-so before =
      counts-reported 28 ns [] ss slotted-so (outcome_of (rule_of 28) ns []) (d before).reach (d before).fronts (came before).ended
      ∙ ap (counts_in ns (outcome_of (rule_of 28) ns [])) (numbered-clients is-gone placed_at (first_of ss) bs [])
      ∙ sym (same-counts bs fit.ordered fit.count held is-gone gone-is placed_at places (first_of ss) firsts (owners bs))
