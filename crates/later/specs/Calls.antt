-- Calls of public functions that are done: what was lent, what was given back and left, as the promise says, and the number 0.
use Rattle.std.specs.Prelude.{ℕ, zero, suc, ◌/◌, ◌≡◌, List, eqb, length, get_or, take, drop}
use Rattle.numbers.specs.Number.{pick}
use Rattle.block.specs.declared.Block.{Block}
use Rattle.updates.specs.declared.Update.{Update}
use Rattle.updates.specs.Promises.{ReadUpdate}
use Rattle.diffs.specs.declared.Diff.{Diff}
use Rattle.diffs.specs.Promises.{Diffs}
use Rattle.sort_answers.specs.declared.Sorted.{Sorted}
use Rattle.sort_answers.specs.Answers.{Sort, Room}
use Rattle.sorts.specs.Promises.{lent, Leaves, sort_of}

-- ---- a sort

-- `sort` says what is sorted, with so many block rows, range rows and words lent
pub record Call (sort : ℕ → ℕ → Room → Sort) : Type 0 where
  pub rows : List Block
  pub ranges : List ℕ
  pub order : List ℕ
  pub counts : List ℕ
  pub reaches : List ℕ
  pub pending : List ℕ
  -- given back, and left in what was lent
  pub answer : Sorted
  pub rows₁ : List Block
  pub ranges₁ : List ℕ
  pub order₁ : List ℕ
  pub counts₁ : List ℕ
  pub reaches₁ : List ℕ
  pub pending₁ : List ℕ
  pub promised : Leaves (sort (length rows) (length ranges / 3) (lent order counts reaches pending)) rows ranges order counts reaches pending
      answer rows₁ ranges₁ order₁ counts₁ reaches₁ pending₁
  pub done : answer.refusal.number ≡ 0

-- `sort` by a rule of the update u, of a form, against the vector v: what it promises is `SortUpdate`
abbrev pub SortCall : ℕ → ℕ → List ℕ → List ℕ → Type 0
SortCall rule form u v = Call (sort_of rule form u v)

-- the numbers of the blocks that it took, in order
abbrev pub taken_by : {sort : ℕ → ℕ → Room → Sort} → Call sort → List ℕ
taken_by a = take a.answer.steps a.order₁

-- what n pairs of words, client and reach, say of client c: 0 where none is its
unfoldable pub reach_at : ℕ → List ℕ → ℕ → ℕ
reach_at zero ws c = 0
reach_at (suc n) ws c = pick (eqb (get_or ws 0 0) c) (get_or ws 1 0) (reach_at n (drop 2 ws) c)

-- how far client c reaches at its end
abbrev pub reach_by : {sort : ℕ → ℕ → Room → Sort} → Call sort → ℕ → ℕ
reach_by a c = reach_at a.answer.reaches a.reaches₁ c

-- ---- a diff

-- `encode_diff` of the update u, of a form, against the vector v, in the form `to`
pub record DiffCall (form : ℕ) (u v : List ℕ) (to : ℕ) : Type 0 where
  pub rows : List Block
  pub ranges : List ℕ
  pub out : List ℕ
  pub answer : Diff
  pub rows₁ : List Block
  pub ranges₁ : List ℕ
  pub out₁ : List ℕ
  pub promised : Diffs form u v to rows ranges out answer rows₁ ranges₁ out₁
  pub done : answer.refusal.number ≡ 0

-- its bytes
abbrev pub written_by : {form : ℕ} {u v : List ℕ} {to : ℕ} → DiffCall form u v to → List ℕ
written_by d = take d.answer.bytes d.out₁

-- ---- a reading

-- `read_update` of the update u of a form
pub record ReadCall (form : ℕ) (u : List ℕ) : Type 0 where
  pub rows : List Block
  pub ranges : List ℕ
  pub answer : Update
  pub rows₁ : List Block
  pub ranges₁ : List ℕ
  pub promised : ReadUpdate form u rows ranges answer rows₁ ranges₁
  pub done : answer.refusal.number ≡ 0
