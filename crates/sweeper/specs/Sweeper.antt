-- What the slow plain sorter does with slots, reaches and counts: a front taken, a client's fronts, a sweep, all sweeps. Crate `swept` says that this
-- is the slow order of `sorting`.
use Rattle.std.specs.Prelude.{ℕ, zero, suc, ◌+◌, ◌-◌, ◌≡◌, Bool, false, not, List, [], ◌∷◌, ltb, length, get_or, set}
use Rattle.numbers.specs.Number.{pick}
use Rattle.block.specs.declared.Block.{Block}
use Rattle.block.specs.Row.{no_block}
use Rattle.parts.specs.Brim.{brim}
use Rattle.slots.specs.Slots.{Slot, slot}
use Rattle.picker.specs.declared.stages.Dependency.{Dependency}
use Rattle.picker.specs.Waits.{no_dependency}
use Rattle.picker.specs.Stages.{stages}
use Rattle.picker.specs.Picker.{nowhere, holds, one_more, lift, pushed}
use Rattle.placing.specs.Placing.{rows_by}

-- ---- the rows as they are seen

-- by number, where h ranges in words w hold ids, or as they are
unfoldable pub seen_by : Bool → List ℕ → ℕ → List Slot → List Block → List Block
seen_by numbered w h ss rows = pick numbered (rows_by w h ss rows 0 rows) rows

-- ---- a front

-- the first of these that holds its block
unfoldable pub first_held : List Slot → List ℕ → List Dependency → Dependency
first_held ss reach [] = no_dependency
first_held ss reach (a ∷ rest) = pick (holds ss reach a) a (first_held ss reach rest)

-- by a rule
unfoldable pub unmet_by : ℕ → List Slot → List ℕ → Block → Dependency
unmet_by rule ss reach b = first_held ss reach (stages rule b)

unfoldable pub ready_by : ℕ → List Slot → List ℕ → Block → Bool
ready_by rule ss reach b = not (unmet_by rule ss reach b).there

-- the row of a slot's front, so many of its blocks being taken; places stay below the brim
unfoldable pub front_row : Slot → ℕ → ℕ
front_row s done = pick (ltb done s.count) (pick (ltb brim s.first) nowhere (pick (ltb brim done) nowhere (s.first + done))) nowhere

-- ---- all that the sorter has: a reach and a count of blocks taken for each slot, the words of the order, and how many steps were made

pub record Board : Type 0 where
  pub reach : List ℕ
  pub taken : List ℕ
  pub order : List ℕ
  pub steps : ℕ

abbrev pub board : List ℕ → List ℕ → List ℕ → ℕ → Board
board reach taken order steps = record { reach = reach; taken = taken; order = order; steps = steps }

-- what is given and left shows this
abbrev pub Shows : Board → ℕ → List ℕ → List ℕ → List ℕ → Type 0
Shows d r reach₁ taken₁ order₁ = (r ≡ d.steps) × (reach₁ ≡ d.reach) × (taken₁ ≡ d.taken) × (order₁ ≡ d.order)

-- block b of slot i, in this row, is taken
unfoldable pub took : ℕ → ℕ → Block → Board → Board
took i row b d =
    record {
      reach = lift d.reach i b;
      taken = set d.taken i (suc (get_or d.taken i 0));
      order = pushed d.order d.steps row;
      steps = one_more d.steps;
    }

-- the row of slot i's front
abbrev pub row_at : List Slot → Board → ℕ → ℕ
row_at ss d i = front_row (get_or ss i (slot 0 0 0)) (get_or d.taken i 0)

-- it has one, and that is ready
unfoldable pub front_ready : ℕ → List Slot → List Block → ℕ → Board → Bool
front_ready rule ss rows i d = pick (ltb (row_at ss d i) (length rows)) (ready_by rule ss d.reach (get_or rows (row_at ss d i) no_block)) false

-- ---- the sweeps

-- the fronts of slot i while they are ready, at most so many
unfoldable pub drained_by : ℕ → ℕ → List Slot → List Block → ℕ → Board → Board
drained_by zero rule ss rows i d = d
drained_by (suc k) rule ss rows i d =
    pick (front_ready rule ss rows i d) (drained_by k rule ss rows i (took i (row_at ss d i) (get_or rows (row_at ss d i) no_block) d)) d

-- at most as many as are left
unfoldable pub left_at : List Slot → List ℕ → ℕ → ℕ
left_at ss taken i = (get_or ss i (slot 0 0 0)).count - get_or taken i 0

unfoldable pub drained : ℕ → List Slot → List Block → ℕ → Board → Board
drained rule ss rows i d = drained_by (left_at ss d.taken i) rule ss rows i d

-- the first i slots, the last of them first
unfoldable pub swept_below : ℕ → ℕ → List Slot → List Block → Board → Board
swept_below zero rule ss rows d = d
swept_below (suc i) rule ss rows d = swept_below i rule ss rows (drained rule ss rows i d)

unfoldable pub swept : ℕ → List Slot → List Block → Board → Board
swept rule ss rows d = swept_below (length ss) rule ss rows d

-- until a sweep takes nothing, at most so many sweeps
unfoldable pub swept_by : ℕ → ℕ → List Slot → List Block → Board → Board
swept_by zero rule ss rows d = d
swept_by (suc k) rule ss rows d =
    pick (ltb d.steps (swept rule ss rows d).steps) (swept_by k rule ss rows (swept rule ss rows d)) (swept rule ss rows d)

-- how many blocks of the first i slots are left
unfoldable pub left_below : List Slot → List ℕ → ℕ → ℕ
left_below ss taken zero = 0
left_below ss taken (suc i) = left_at ss taken i + left_below ss taken i

-- a sweep that takes something takes a block
unfoldable pub swept_all : ℕ → List Slot → List Block → Board → Board
swept_all rule ss rows d = swept_by (suc (left_below ss d.taken (length ss))) rule ss rows d
