-- The words of one slot: three at most.
use Prim.Native.Nat.{ℕ, ◌≤◌}
use mathlib.Core.Bool.{Bool, true, false}
use mathlib.Core.List.{List, [], ◌∷◌}
use native.Mathlib.Omega.{arith}
use lib.Dec.{ltb}
use lib.ListN.{length, get_or}
use Rattle.numbers.specs.Number.{pick}
use Rattle.block.specs.declared.Block.{Block}
use Rattle.block.specs.Row.{no_block}
use Rattle.slots.specs.Slots.{Slot}
use Rattle.sweeper.specs.Sweeper.{unmet_by, front_row}
use Rattle.sweep_reports.specs.Reports.{reach_for, block_waits, front_waits}

module _ (rule : ℕ) (ss : List Slot) (reach : List ℕ) where
  three-most : (s : Slot) (b : Block) → length (block_waits rule ss reach s b) ≤ 3
  unfolding block_waits
  three-most s b = go (unmet_by rule ss reach b).there
    where
      go : (x : Bool) → length (pick x (s.client ∷ ((unmet_by rule ss reach b).id.client ∷ (reach_for ss reach (unmet_by rule ss reach b).id.client ∷ []))) []) ≤ 3
      go true = omega arith
      go false = omega arith

  pub waits-most : (rows : List Block) (s : Slot) (done : ℕ) → length (front_waits rule ss rows reach s done) ≤ 3
  unfolding front_waits
  waits-most rows s done = go (ltb (front_row s done) (length rows)) (three-most s (get_or rows (front_row s done) no_block))
    where
      go : (x : Bool) → length (block_waits rule ss reach s (get_or rows (front_row s done) no_block)) ≤ 3
          → length (pick x (block_waits rule ss reach s (get_or rows (front_row s done) no_block)) []) ≤ 3
      go true h = h
      go false h = omega arith
