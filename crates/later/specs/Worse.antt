-- One sort is not worse than another: asking later, or for the diff alone.
use Rattle.std.specs.Prelude.{ℕ, ◌≤◌, ◌≡◌, ◌⊎◌, List}
use Rattle.kept.specs.Kept.{remote}
use Rattle.sorting.specs.Quick.{Listed}
use Rattle.sort_answers.specs.Answers.{Sort, Room}
use Rattle.rereading.specs.Vectors.{entries_in}
use Rattle.knowledge.specs.More.{AtLeast}
use Rattle.later.specs.Calls.{Call, taken_by, reach_by}

-- the vector w has for every client a clock as high as v has, or higher; a client that a vector does not name has 0
abbrev pub AsHigh : List ℕ → List ℕ → Type 0
AsHigh v w = AtLeast (remote (entries_in v)) (remote (entries_in w))

-- b is not worse than a, of the same update: each block that a takes b takes, and every client reaches as far
pub record NotWorse {f g : ℕ → ℕ → Room → Sort} (a : Call f) (b : Call g) : Type 0 where
  pub taken : (n : ℕ) → Listed n (taken_by a) → Listed n (taken_by b)
  pub reaches : (c : ℕ) → reach_by a c ≤ reach_by b c

-- a sort's number if it is refused for words that do not suffice, if at all
abbrev pub ForWords : ℕ → Type 0
ForWords number = (number ≡ 0) ⊎ ((number ≡ 8) ⊎ (number ≡ 10))
