-- A reading has no more delete ranges than its update has bytes.
use Prim.Native.Nat.{ℕ, ◌≤◌}
use mathlib.Core.Bool.{Bool, true, false}
use mathlib.Core.List.{List}
use native.Mathlib.Omega.{arith}
use lib.Dec.{eqb}
use lib.ListN.{length}
use Rattle.numbers.specs.declared.Refusal.{Refusal}
use Rattle.numbers.specs.Number.{pick, nowhere}
use Rattle.grammar.specs.Course.{fit}
use Rattle.decoder.specs.Update.{delete_set}
use Rattle.decoder.specs.Update.{blocks_of}
use Rattle.updates.specs.Promises.{Reading, refused, with_ranges, with_blocks, early, reading}
use Rattle.updates.proofs.Read.{followed}
use Rattle.writing.proofs.SmallRanges.{found-few}

module _ (form : ℕ) (u : List ℕ) (n m : ℕ) where
  abbrev Few : Reading → Type 0
  Few r = length r.ranges ≤ length u

  refused-few : (why : Refusal) → Few (refused why)
  refused-few why = omega arith

  with-few : Few (with_blocks form u m (fit n (blocks_of form u)))
  unfolding with_blocks with_ranges
  with-few =
      followed Few _ refused-few (fit n (blocks_of form u)) (λ _ s. followed Few _ refused-few (fit m (delete_set form u s)) (λ _ _. found-few form u s m))

  pub reading-few : Few (reading form u n m)
  unfolding reading
  reading-few = go (eqb (early form u) 0)
    where
      go : (x : Bool) → Few (pick x (with_blocks form u m (fit n (blocks_of form u))) (refused (nowhere (early form u))))
      go true = with-few
      go false = refused-few (nowhere (early form u))
