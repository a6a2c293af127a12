-- An update's blocks in queues, one a client, and what a rule is, by which a front is ready. The rules themselves stand in a file each (Rule28,
-- Rule13).
use Rattle.std.specs.Prelude.{ℕ, ◌+◌, Bool, true, false, ◌||◌, List, [], ◌∷◌, ltb, eqb, length, get_or}
use Rattle.std.proofs.Math.Option.{Option, none, some}
use Rattle.numbers.specs.Number.{pick}
use Rattle.block.specs.declared.Id.{Id}
use Rattle.block.specs.declared.Block.{Block}
use Rattle.block.specs.Row.{no_block, left_id, right_id, parent_id}
use Rattle.block.specs.Kinds.{SKIP}
use Rattle.sorting.specs.Steps.{System, State}

-- ---- blocks

-- a client's blocks, in reading order
unfoldable pub queue : List Block → ℕ → List Block
queue [] c = []
queue (b ∷ bs) c = pick (eqb b.client c) (b ∷ queue bs c) (queue bs c)

abbrev pub is_skip : Block → Bool
is_skip b = eqb b.kind SKIP

abbrev pub also : Bool → Id → List Id → List Id
also true d ds = d ∷ ds
also false d ds = ds

-- what a block hangs on: left id, right id, parent id
unfoldable pub deps : Block → List Id
deps b = also b.has_left (left_id b) (also b.has_right (right_id b) (also b.has_parent (parent_id b) []))

-- the ids of other clients than c
unfoldable pub others : ℕ → List Id → List Id
others c [] = []
others c (d ∷ ds) = pick (eqb d.client c) (others c ds) (d ∷ others c ds)

-- ---- rules

-- A rule says what a block of a client asks for, if it is no Skip, in the order in which it is reported; when an id is met by what is known; what a
-- taken block makes known; and what is reported of an id that is not met, beside its client.
pub record Rule (A : Type 0) : Type 0 where
  pub asks : ℕ → Block → List Id
  pub met : (A → ℕ) → Id → Bool
  pub tells : ℕ → Block → A → ℕ
  pub says : (A → ℕ) → Id → ℕ

-- the first of these ids that is not met
unfoldable pub unmet : (Id → Bool) → List Id → Option Id
unmet met [] = none
unmet met (d ∷ ds) = pick (met d) (unmet met ds) (some d)

-- what a block of client c waits for
unfoldable pub waits : {A : Type 0} → Rule A → (A → ℕ) → ℕ → Block → Option Id
waits R κ c b = unmet (R.met κ) (R.asks c b)

abbrev pub free : Option Id → Bool
free none = true
free (some d) = false

-- A Skip is always free and makes nothing known.
unfoldable pub system : {A : Type 0} → Rule A → (ℕ → List Block) → System A
system R q = record {
  size = λ c. length (q c);
  ready = λ κ c k. is_skip (get_or (q c) k no_block) || free (waits R κ c (get_or (q c) k no_block));
  fact = λ c k a. pick (is_skip (get_or (q c) k no_block)) 0 (R.tells c (get_or (q c) k no_block) a);
}

-- what a client's front waits for
unfoldable pub report : {A : Type 0} → Rule A → (ℕ → List Block) → State A → ℕ → Option Id
report R q s c = pick (ltb (s.taken c) (length (q c))) (waits R s.known c (get_or (q c) (s.taken c) no_block)) none

-- ---- rules by reaches

-- met: the clock is below the reach
abbrev pub below : (ℕ → ℕ) → Id → Bool
below reach d = ltb d.clock (reach d.client)

-- a block lifts its own client's reach to its end; of an id that is not met its client's reach is reported
unfoldable pub by_reaches : (ℕ → Block → List Id) → Rule ℕ
by_reaches asks = record {
  asks = asks;
  met = below;
  tells = λ c b d. pick (eqb d c) (b.clock + b.length.0) 0;
  says = λ reach d. reach d.client;
}
