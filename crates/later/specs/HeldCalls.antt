-- Calls of `sort_held` that are done (W-206): what was lent, what was given back and left, as the promise says, and the number 0; and what more is
-- held.
use Rattle.std.specs.Prelude.{ℕ, ◌/◌, ◌≡◌, List, length, take}
use Rattle.block.specs.declared.Block.{Block}
use Rattle.ranges.specs.Ranges.{Range}
use Rattle.ranges.specs.RangesInner.{Deleted}
use Rattle.held_answers.specs.declared.SortedHeld.{SortedHeld}
use Rattle.held_answers.specs.Answers.{SortHeld}
use Rattle.held_sorts.specs.Promises.{lent, sort_held_of, SortUpdateHeld}

-- `sort_held` of the update u, of a form, by the held ids v
pub record HeldCall (form : ℕ) (u v : List ℕ) : Type 0 where
  pub rows : List Block
  pub ranges : List ℕ
  pub held : List ℕ
  pub order : List ℕ
  pub counts : List ℕ
  pub pending : List ℕ
  -- given back, and left in what was lent
  pub answer : SortedHeld
  pub rows₁ : List Block
  pub ranges₁ : List ℕ
  pub held₁ : List ℕ
  pub order₁ : List ℕ
  pub counts₁ : List ℕ
  pub pending₁ : List ℕ
  pub promised : SortUpdateHeld form u v rows ranges held order counts pending answer rows₁ ranges₁ held₁ order₁ counts₁ pending₁
  pub done : answer.refusal.number ≡ 0

-- what it promises
abbrev pub held_sort : {form : ℕ} {u v : List ℕ} → HeldCall form u v → SortHeld
held_sort {form} {u} {v} a =
    sort_held_of form u v (length a.rows) (length a.ranges / 3) (length a.held / 3) (lent a.order a.counts a.pending)

-- the numbers of the blocks that it took, in order; the held ids that it was given, in normal form
abbrev pub taken_held : {form : ℕ} {u v : List ℕ} → HeldCall form u v → List ℕ
taken_held a = take a.answer.steps a.order₁

abbrev pub given_held : {form : ℕ} {u v : List ℕ} → HeldCall form u v → List Range
given_held a = (held_sort a).held

-- every id that rs hold rs' hold
abbrev pub Larger : List Range → List Range → Type 0
Larger rs rs' = (c k : ℕ) → Deleted rs c k → Deleted rs' c k
