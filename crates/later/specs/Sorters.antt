-- What is asked of a sorter: where it is done, its words are those of a run that goes on until no step is possible. Which run is its own affair.
use Rattle.std.specs.Prelude.{ℕ, ◌≡◌, List}
use Rattle.block.specs.declared.Block.{Block}
use Rattle.vector.specs.Vector.{Entry}
use Rattle.kept.specs.Kept.{remote}
use Rattle.sorting.specs.Steps.{start, after}
use Rattle.sorting.specs.Rules.{Rule}
use Rattle.sorting.specs.Sorted.{all_clients, steps, reaches_in}
use Rattle.updates.specs.Promises.{reading}
use Rattle.sort_answers.specs.Answers.{Sort, Room}
use Rattle.rereading.specs.Vectors.{entries_in}
use Rattle.knowledge.specs.More.{Ran}

-- the sort s of the blocks bs by R, from the remote clocks of the entries v: its order is a run's, and its reaches are those where that run ends
pub record Ended (R : Rule ℕ) (bs : List Block) (v : List Entry) (s : Sort) : Type 0 where
  pub ran : Ran R bs (remote v) s.order
  pub reaches : s.reaches ≡ reaches_in (after (steps R bs) (start (remote v)) ran.run) (all_clients bs v)

-- `sort` sorts the update u, of a form, against the vector v by R: if it is done, u was read and sorted
abbrev pub Sorter : Rule ℕ → ℕ → List ℕ → List ℕ → (ℕ → ℕ → Room → Sort) → Type 0
Sorter R form u v sort =
    (m n : ℕ) (room : Room) → (sort m n room).refusal.number ≡ 0
    → ((reading form u m n).refusal.number ≡ 0) × Ended R (reading form u m n).blocks (entries_in v) (sort m n room)
