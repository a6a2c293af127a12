-- Demand 3 in the demand's own words: when a step is allowed, by each rule; that every allowed run can be carried on to an end; and when a sort is
-- done.
use Rattle.std.specs.Prelude.{ℕ, ◌≤◌, ◌<◌, ◌≡◌, ◌⊎◌, ◌↔◌, true, false, List, ◌++◌, T, length, get_or}
use Rattle.block.specs.declared.Id.{Id}
use Rattle.block.specs.declared.Block.{Block}
use Rattle.block.specs.Row.{no_block}
use Rattle.grammar.specs.Course.{things, ending}
use Rattle.vector.specs.Vector.{vector_of}
use Rattle.readings.specs.Sound.{All}
use Rattle.updates.specs.Promises.{reading}
use Rattle.sorting.specs.Steps.{State, start, can, Run, Ends}
use Rattle.sorting.specs.Rules.{queue, is_skip, deps, Rule}
use Rattle.sorting.specs.Rule28Inner.{rule28}
use Rattle.sorting.specs.Rule13Inner.{rule13}
use Rattle.sorting.specs.Named.{rule_of}
use Rattle.sorting.specs.Sorted.{steps, order_of, counts_of, reaches_of, pending_of}
use Rattle.sort_answers.specs.Answers.{is_rule, Room}
use Rattle.sorts.specs.Promises.{sort_of}

-- ---- a step

-- a block of client c is left, and this is the first of them
abbrev pub Left : List Block → State ℕ → ℕ → Type 0
Left bs s c = s.taken c < length (queue bs c)

abbrev pub front : List Block → State ℕ → ℕ → Block
front bs s c = get_or (queue bs c) (s.taken c) no_block

-- a dependency of a block of client c: on another client, it lies below that client's reach
abbrev pub Met : (ℕ → ℕ) → ℕ → Id → Type 0
Met reach c d = (d.client ≡ c) ⊎ (d.clock < reach d.client)

-- by rule 28 a step may take the front of a client exactly when it is a Skip, or each of its dependencies on another client lies below that client's
-- reach
abbrev pub CanIff28 : Type 0
CanIff28 =
    (bs : List Block) (s : State ℕ) (c : ℕ)
    → T (can (steps rule28 bs) s c) ↔ (Left bs s c × ((is_skip (front bs s c) ≡ true) ⊎ All (Met s.known c) (deps (front bs s c))))

-- by rule 13 its clock has to be at or below its own client's reach, too
abbrev pub CanIff13 : Type 0
CanIff13 =
    (bs : List Block) (s : State ℕ) (c : ℕ)
    → T (can (steps rule13 bs) s c)
    ↔ (Left bs s c × ((is_skip (front bs s c) ≡ true) ⊎ (All (Met s.known c) (deps (front bs s c)) × ((front bs s c).clock ≤ s.known c))))

-- ---- a run: however it began, it can be carried on until no step is possible

abbrev pub CarriedOn : Type 1
CarriedOn =
    (A : Type 0) (R : Rule A) (bs : List Block) (κ : A → ℕ) (cs : List ℕ) → Run (steps R bs) (start κ) cs
    → (ds : List ℕ) × Ends (steps R bs) (start κ) (cs ++ ds)

-- ---- a sort is done exactly when its rule is known, update and vector are read, and there are words enough for the order and each report

pub record Doable (rule form : ℕ) (u v : List ℕ) (block_rows range_rows : ℕ) (m : Room) : Type 0 where
  pub known : is_rule rule ≡ true
  pub read : (reading form u block_rows range_rows).refusal.number ≡ 0
  pub vector : ending (vector_of v) (λ _. true) (λ _. false) ≡ true
  pub order : length (order_of (rule_of rule) (reading form u block_rows range_rows).blocks (things (vector_of v))) ≤ m.order
  pub counts : length (counts_of (rule_of rule) (reading form u block_rows range_rows).blocks (things (vector_of v))) ≤ m.counts
  pub reaches : length (reaches_of (rule_of rule) (reading form u block_rows range_rows).blocks (things (vector_of v))) ≤ m.reaches
  pub pending : length (pending_of (rule_of rule) (reading form u block_rows range_rows).blocks (things (vector_of v))) ≤ m.pending

abbrev pub SortDone : Type 0
SortDone =
    (rule form : ℕ) (u v : List ℕ) (block_rows range_rows : ℕ) (m : Room)
    → ((sort_of rule form u v block_rows range_rows m).refusal.number ≡ 0) ↔ Doable rule form u v block_rows range_rows m
