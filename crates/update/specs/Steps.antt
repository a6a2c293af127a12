-- One step of reading an update's blocks: what is to come before it is what it gives, and then what is to come after it.
use Rattle.numbers.specs.declared.Refusal.{Refusal}
use Rattle.std.specs.Prelude.{ℕ, ◌+◌, ◌*◌, ◌≤◌, ◌<◌, ◌≡◌, ◌≢◌, List, length, take, Result, Ok, Err}
use Rattle.numbers.specs.Limits.{max_clock, max_blocks}
use Rattle.block.specs.declared.Block as row
use Rattle.grammar.specs.Grammar.{Grammar}
use Rattle.grammar.specs.Grammar.{◌>>=◌}
use Rattle.grammar.specs.Course.{Course, CourseTo, thing, over, stopped, run}
use Rattle.grammar.specs.Blocks.{blocks, sections, all_blocks}
use Rattle.decoder.specs.States.{State, moved_to}
use Rattle.decoder.specs.ColumnedInner.{fields}
use Rattle.decoder.specs.Update.{rest_places, in_columns, blocks_of}
use Rattle.cells.specs.Cells.{state_in, Small}
use Rattle.item.specs.Row.{row_in, Narrow}
use Rattle.update.specs.declared.Spot.{Spot}
use Rattle.update.specs.declared.Step.{Step}
use Rattle.update.specs.declared.Step.TheVariants.{Block, On, Done}

-- the blocks left of this section, and the sections left; m has the clients seen
unfoldable pub to_come : List ℕ → Spot → Grammar row.Block (Unit {0})
to_come m s = blocks s.blocks s.client s.clock >>= λ _. sections s.sections (take s.seen m) s.room

-- read from the words w on, up to a state; and up to that state's place
unfoldable pub reads : ℕ → List ℕ → List ℕ → List ℕ → Spot → CourseTo State row.Block (Unit {0})
reads form u m w s = run (fields form u) (to_come m s) (state_in w)

unfoldable pub comes : ℕ → List ℕ → List ℕ → List ℕ → Spot → Course row.Block
comes form u m w s = rest_places (reads form u m w s)

-- ---- what a step gives, with the memory m, the words w and the row r that it leaves

unfoldable pub after : ℕ → List ℕ → List ℕ → List ℕ → List ℕ → Result Step Refusal → CourseTo State row.Block (Unit {0})
after form u m w r (Ok (Block p t)) = thing (row_in r) p (reads form u m w t)
after form u m w r (Ok (On t)) = reads form u m w t
after form u m w r (Ok (Done at)) = over tt (moved_to (state_in w) at)
after form u m w r (Err why) = stopped why

unfoldable pub begins : ℕ → List ℕ → List ℕ → List ℕ → Result Spot Refusal → CourseTo State row.Block (Unit {0})
begins form u m w (Ok s) = reads form u m w s
begins form u m w (Err why) = stopped why

-- ---- what steps keep up

-- the memory has room for the clients to come, so many blocks are announced, the clock is one
pub record Fine (m : List ℕ) (s : Spot) : Type 0 where
  pub seen : s.seen + s.sections ≤ length m
  pub room : s.room ≤ max_blocks
  pub blocks : s.blocks ≤ max_blocks
  pub clock : s.clock ≤ max_clock

-- how many steps there are at most
unfoldable pub left : Spot → ℕ
left s = s.sections * 65536 + s.blocks

-- and each leaves fewer
unfoldable pub Steady : List ℕ → List ℕ → Spot → Result Step Refusal → Type 0
Steady m r s (Ok (Block p t)) = Fine m t × Narrow r × (left t < left s)
Steady m r s (Ok (On t)) = Fine m t × (left t < left s)
Steady m r s (Ok (Done at)) = Unit {0}
Steady m r s (Err why) = Unit {0}

-- a step from the memory m, the words w and the row r to those with ₁
pub record Stepped (form : ℕ) (u m w r : List ℕ) (s : Spot) (m₁ w₁ r₁ : List ℕ) (x : Result Step Refusal) : Type 0 where
  pub told : reads form u m w s ≡ after form u m₁ w₁ r₁ x
  pub steady : Steady m₁ r₁ s x
  pub small : Small w₁
  pub memory : length m₁ ≡ length m
  pub row : length r₁ ≡ length r

unfoldable pub First : List ℕ → Result Spot Refusal → Type 0
First m (Ok s) = Fine m s
First m (Err why) = Unit {0}

-- the section count: all blocks from the words w on, to the words v
pub record Counted (form : ℕ) (u w v : List ℕ) (x : Result Spot Refusal) : Type 0 where
  pub told : (m : List ℕ) → run (fields form u) all_blocks (state_in w) ≡ begins form u m v x
  pub first : (m : List ℕ) → 64 ≤ length m → First m x
  pub small : Small v

-- the beginning, whatever the memory m of 64 words and the words were, to the words w; form 2 also with the state that it ends in
pub record Starts (form : ℕ) (u w : List ℕ) (x : Result Spot Refusal) : Type 0 where
  pub told : (m : List ℕ) → blocks_of form u ≡ rest_places (begins form u m w x)
  pub columns : (m : List ℕ) → form ≢ 1 → in_columns u ≡ begins form u m w x
  pub first : (m : List ℕ) → 64 ≤ length m → First m x
  pub small : Small w
