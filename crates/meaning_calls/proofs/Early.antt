-- What is refused early, and the row that has no block, said shorter.
use Prim.Native.Nat.{ℕ}
use mathlib.Core.Path.{◌≡◌, refl}
use mathlib.Core.Bool.{Bool, true, false, ◌||◌}
use mathlib.Core.List.{List}
use lib.Dec.{ltb, eqb}
use lib.ListN.{length}
use Rattle.numbers.specs.Number.{pick}
use Rattle.block.specs.Row as row
use Rattle.updates.specs.Promises as promises
use Rattle.meaning.specs.Reads.{when◌then◌else◌}
use Rattle.meaning.specs.Blocks as blocks
use Rattle.meaning.specs.Blocks.{no_block}
use Rattle.meaning_calls.specs.Early.{early}

pub early-same : (form : ℕ) (u : List ℕ) → promises.early form u ≡ early form u
unfolding promises.early promises.known early when◌then◌else◌
early-same form u = go (eqb form 1) (eqb form 2) (ltb 16777215 (length u))
  where
    go : (a b c : Bool) → ◌≡◌ {A = ℕ} (pick (pick a true b) (pick c 3 0) 12) (when a || b then (when c then 3 else 0) else 12)
    go true b true = refl
    go true b false = refl
    go false true true = refl
    go false true false = refl
    go false false c = refl

pub no-block-same : row.no_block ≡ no_block
unfolding blocks.row
no-block-same = refl
