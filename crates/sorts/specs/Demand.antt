-- The user's demand 3, of a sort that is done: what its words say of every allowed order. The first record is over any rule and any knowledge, and
-- serves sorting by held ids too (`held_sorts`); a sort against a vector has reaches beside it.
use Rattle.std.specs.Prelude.{ℕ, ◌<◌, ◌≡◌, ◌↔◌, true, false, List, length}
use Rattle.std.proofs.Math.Option.{some}
use Rattle.block.specs.declared.Id.{Id}
use Rattle.grammar.specs.Course.{Course, things, ending}
use Rattle.vector.specs.Vector.{Entry}
use Rattle.kept.specs.Kept.{remote}
use Rattle.readings.specs.Sound.{All}
use Rattle.readings.specs.Groups.{Distinct}
use Rattle.sorting.specs.Steps.{State, start, after, Run, Ends, Highest, Sorts}
use Rattle.sorting.specs.Quick.{Listed}
use Rattle.sorting.specs.Rules.{queue, Rule, report}
use Rattle.sorting.specs.Sorted.{all_clients, steps, numbers_by, Taking, counts_in, reaches_in, pending_in}
use Rattle.updates.specs.Promises.{Reading}
use Rattle.sort_answers.specs.Answers.{Sort}
use Rattle.block.specs.declared.Block.{Block}

-- ---- blocks sorted by a rule from what is known at first, reported of these clients: an order and two reports are those of every allowed run

pub record Demanded {A : Type 0} (R : Rule A) (bs : List Block) (κ : A → ℕ) (cs : List ℕ) (order counts pending : List ℕ) : Type 0 where
  -- the client of each step: every other whole run takes the same blocks and comes to know the same, and a block is left pending exactly when no
  -- allowed run takes it
  pub run : List ℕ
  pub sorts : Sorts (steps R bs) κ run
  -- each step takes the highest client that may be taken, and no other whole run does
  pub highest : Highest (steps R bs) (start κ) run
  pub only : (ds : List ℕ) → Ends (steps R bs) (start κ) ds → Highest (steps R bs) (start κ) ds → ds ≡ run
  -- the numbers of the blocks that are taken
  pub numbers : order ≡ numbers_by R bs (start κ) run
  -- a number stands there exactly when some allowed run takes its block; so a block's number is missing exactly when no allowed run takes the block
  pub taken : (n : ℕ) → Listed n order ↔ Taking R bs κ n
  pub missing : (n : ℕ) → (Listed n order → ⊥) ↔ ((ds : List ℕ) → Run (steps R bs) (start κ) ds → Listed n (numbers_by R bs (start κ) ds) → ⊥)
  -- it stands there once, and is the number of a block
  pub once : Distinct order
  pub inside : All (λ n. n < length bs) order
  -- the reports, on the end of every whole run
  pub counted : (ds : List ℕ) → Ends (steps R bs) (start κ) ds → counts ≡ counts_in bs (after (steps R bs) (start κ) ds) cs
  pub waiting : (ds : List ℕ) → Ends (steps R bs) (start κ) ds → pending ≡ pending_in R bs (after (steps R bs) (start κ) ds) cs
  -- a client with blocks left is reported: it waits for something that is not met (whose that is, each rule says: `waits-28`, `waits-13`)
  pub waits : (k : ℕ) → (after (steps R bs) (start κ) run).taken k < length (queue bs k)
      → (d : Id) × (report R (queue bs) (after (steps R bs) (start κ) run) k ≡ some d) × (R.met (after (steps R bs) (start κ) run).known d ≡ false)

-- ---- a rule R, a reading r and a vector c

-- each step is allowed, and after the last none is possible
abbrev pub Whole : Rule ℕ → Reading → Course Entry → List ℕ → Type 0
Whole R r c cs = Ends (steps R r.blocks) (start (remote (things c))) cs

-- where it ends
abbrev pub end_state : Rule ℕ → Reading → Course Entry → List ℕ → State ℕ
end_state R r c cs = after (steps R r.blocks) (start (remote (things c))) cs

-- the sort s of r against c by R
pub record Demand3 (R : Rule ℕ) (r : Reading) (c : Course Entry) (s : Sort) : Type 0 where
  -- both were read whole
  pub read : (r.refusal.number ≡ 0) × (ending c (λ _. true) (λ _. false) ≡ true)
  pub reading : s.reading ≡ r
  pub demanded : Demanded R r.blocks (remote (things c)) (all_clients r.blocks (things c)) s.order s.counts s.pending
  -- the reaches, on the end of every whole run
  pub reaches : (cs : List ℕ) → Whole R r c cs → s.reaches ≡ reaches_in (end_state R r c cs) (all_clients r.blocks (things c))
