-- How a sorter's slots, fronts and reaches stand to the blocks of an update, to a vector, and to a state of sorting.
use Rattle.std.specs.Prelude.{ℕ, ◌+◌, ◌*◌, ◌≤◌, ◌<◌, ◌≡◌, ◌⊎◌, true, false, List, ◌++◌, map, length, get_or, take, drop}
use Rattle.std.proofs.Math.Option.{some}
use Rattle.numbers.specs.Limits.{max_clock, max_blocks}
use Rattle.block.specs.declared.Id.{Id}
use Rattle.block.specs.declared.Block.{Block}
use Rattle.vector.specs.Vector.{Entry}
use Rattle.kept.specs.Kept.{remote}
use Rattle.readings.specs.Sound.{All}
use Rattle.readings.specs.SoundInner.{Ordered}
use Rattle.slots.specs.Slots.{Slot, slot, Falling, is_named, rank}
use Rattle.picker.specs.declared.fronts.Front.{Front}
use Rattle.picker.specs.Fronts.{never, front_at, fresh}
use Rattle.sorting.specs.Steps.{State}
use Rattle.sorting.specs.Rules.{queue, report}
use Rattle.sorting.specs.Named.{rule_of}
use Rattle.sorting.specs.Sorted.{all_clients, block_numbers_from}

abbrev pub slot_of : List Slot → ℕ → Slot
slot_of ss i = get_or ss i (slot 0 0 0)

-- the slots of blocks and of a vector: the clients that are reported, each with how many blocks it has and the number of its first
pub record Slotted (bs : List Block) (v : List Entry) (ss : List Slot) : Type 0 where
  pub falling : Falling ss
  pub names : map (λ (s : Slot). s.client) ss ≡ all_clients bs v
  pub counts : (i : ℕ) → i < length ss → (slot_of ss i).count ≡ length (queue bs (slot_of ss i).client)
  pub firsts : (i : ℕ) → i < length ss → 0 < (slot_of ss i).count → (slot_of ss i).first ≡ get_or (block_numbers_from 0 bs (slot_of ss i).client) 0 0

-- what a reader makes sure of: a client's blocks stand together, ends are clocks, and there are no more than so many
pub record Sortable (bs : List Block) : Type 0 where
  pub ordered : Ordered bs
  pub ends : All (λ (b : Block). b.clock + b.length.0 ≤ max_clock) bs
  pub few : length bs ≤ max_blocks

-- fronts and reaches before the first look
pub record Opened (v : List Entry) (ss : List Slot) (reach fronts : List ℕ) : Type 0 where
  pub room : (length ss ≤ length reach) × (6 * length ss ≤ length fronts)
  pub reaches : (i : ℕ) → i < length ss → get_or reach i 0 ≡ remote v (slot_of ss i).client
  pub begun : (i : ℕ) → i < length ss → front_at fronts i ≡ fresh (slot_of ss i).first (slot_of ss i).count

-- the front waits for a client: its slot is known, or it has none and never comes
abbrev pub Awaits : List Slot → Front → ℕ → Type 0
Awaits ss f c =
    ((is_named c ss ≡ true) × (f.slot ≡ rank c ss) × (f.need < never)) ⊎ ((is_named c ss ≡ false) × (f.need ≡ never))

-- fronts and reaches at the end, in a state where no step is possible by the rule
pub record Ended (rule : ℕ) (bs : List Block) (ss : List Slot) (s : State ℕ) (reach fronts : List ℕ) : Type 0 where
  pub reaches : (i : ℕ) → i < length ss → get_or reach i 0 ≡ s.known (slot_of ss i).client
  pub others : (c : ℕ) → is_named c ss ≡ false → s.known c ≡ 0
  pub left : (i : ℕ) → i < length ss → (front_at fronts i).left + s.taken (slot_of ss i).client ≡ (slot_of ss i).count
  -- the row of its next block
  pub next : (i : ℕ) → i < length ss → 0 < (front_at fronts i).left → (front_at fronts i).next ≡ (slot_of ss i).first + s.taken (slot_of ss i).client
  -- a front that has blocks left waits for the first id that is not met
  pub waits : (i : ℕ) → i < length ss → 0 < (front_at fronts i).left
      → (d : Id) × (report (rule_of rule) (queue bs) s (slot_of ss i).client ≡ some d) × ((front_at fronts i).missing ≡ d.client)
      × (Awaits ss (front_at fronts i) d.client)

-- words overlaid by others, as far as there is room
unfoldable pub overlaid : List ℕ → List ℕ → List ℕ
overlaid w ws = take (length w) ws ++ drop (length ws) w
