-- More knowledge holds no block back: what is said of two runs over the same blocks by the same rule, the second from a start that knows at least as
-- much.
use Rattle.std.specs.Prelude.{ℕ, ◌≤◌, ◌≡◌, List}
use Rattle.block.specs.declared.Block.{Block}
use Rattle.sorting.specs.Steps.{start, after, Ends}
use Rattle.sorting.specs.Quick.{Listed}
use Rattle.sorting.specs.Rules.{Rule}
use Rattle.sorting.specs.Sorted.{steps, numbers_by}

-- κ' is at least κ: every reach is as high or higher, every id that is held is held
abbrev pub AtLeast : {A : Type 0} → (A → ℕ) → (A → ℕ) → Type 0
AtLeast {A} κ κ' = (a : A) → κ a ≤ κ' a

-- ns are the numbers of the blocks that a run takes from κ on, until no step is possible; which run, each sorter says
pub record Ran {A : Type 0} (R : Rule A) (bs : List Block) (κ : A → ℕ) (ns : List ℕ) : Type 0 where
  pub run : List ℕ
  pub whole : Ends (steps R bs) (start κ) run
  pub order : ns ≡ numbers_by R bs (start κ) run

-- what is known at its end
abbrev pub known_by : {A : Type 0} {R : Rule A} {bs : List Block} {κ : A → ℕ} {ns : List ℕ} → Ran R bs κ ns → A → ℕ
known_by {A} {R} {bs} {κ} r = (after (steps R bs) (start κ) r.run).known

pub record NoneHeldBack
    {A : Type 0} {R : Rule A} {bs : List Block} {κ κ' : A → ℕ} {ns ms : List ℕ} (a : Ran R bs κ ns) (b : Ran R bs κ' ms) : Type 0 where
  -- each block that a takes b takes, by its number
  pub taken : (n : ℕ) → Listed n ns → Listed n ms
  -- and b ends knowing at least as much
  pub known : AtLeast (known_by a) (known_by b)
