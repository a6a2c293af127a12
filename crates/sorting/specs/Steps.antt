-- Taking blocks from queues, one front after another. No sorter stands here: a step, a run of steps, and where none is possible.
-- A queue is named by a number, its client. What is known is a number for each place of A: for reaches a place is a client, for held ids it is an id.
use Rattle.std.specs.Prelude.{◌≡◌, ◌⊎◌, ◌↔◌, Bool, cond, ◌&&◌, List, [], ◌∷◌, ℕ, suc, ◌≤◌, max, T, ltb, eqb}

-- What a step goes by: how many blocks a queue has, if a queue's block is ready, and what a taken one makes known.
pub record System (A : Type 0) : Type 0 where
  pub size : ℕ → ℕ
  pub ready : (A → ℕ) → ℕ → ℕ → Bool
  pub fact : ℕ → ℕ → A → ℕ

pub record State (A : Type 0) : Type 0 where
  pub taken : ℕ → ℕ
  pub known : A → ℕ

abbrev pub start : {A : Type 0} → (A → ℕ) → State A
start v = record { taken = λ c. 0; known = v }

module _ {A : Type 0} (S : System A) where
  -- may the front of c be taken
  unfoldable pub can : State A → ℕ → Bool
  can s c = ltb (s.taken c) (S.size c) && S.ready s.known c (s.taken c)

  unfoldable pub step : State A → ℕ → State A
  step s c = record {
    taken = λ d. cond (eqb d c) (suc (s.taken d)) (s.taken d);
    known = λ a. max (s.known a) (S.fact c (s.taken c) a);
  }

  -- the state after the steps of an order, and that each of them may be made
  unfoldable pub after : State A → List ℕ → State A
  after s [] = s
  after s (c ∷ cs) = after (step s c) cs

  unfoldable pub Run : State A → List ℕ → Type 0
  Run s [] = Unit {0}
  Run s (c ∷ cs) = T (can s c) × Run (step s c) cs

  unfoldable pub Stuck : State A → Type 0
  Stuck s = (c : ℕ) → T (can s c) → ⊥

  -- a run that goes on until no step is possible
  pub record Ends (s : State A) (cs : List ℕ) : Type 0 where
    pub run : Run s cs
    pub end : Stuck (after s cs)

  -- a step of the order takes the block k of queue c
  unfoldable pub Takes : State A → List ℕ → ℕ → ℕ → Type 0
  Takes s [] c k = ⊥
  Takes s (d ∷ cs) c k = ((c ≡ d) × (k ≡ s.taken d)) ⊎ Takes (step s d) cs c k

  -- each step of the order takes the highest client that may be taken
  unfoldable pub Highest : State A → List ℕ → Type 0
  Highest s [] = Unit {0}
  Highest s (c ∷ cs) = ((d : ℕ) → T (can s d) → d ≤ c) × Highest (step s c) cs

  -- Demand 3, of an order from what is known at the start
  pub record Sorts (v : A → ℕ) (cs : List ℕ) : Type 0 where
    -- the order is an allowed run, carried on until none is possible
    pub ends : Ends (start v) cs
    -- every other such run takes the same blocks and ends in the same reaches
    pub same : (ds : List ℕ) → Ends (start v) ds → after (start v) ds ≡ after (start v) cs
    pub blocks : (ds : List ℕ) → Ends (start v) ds → (c k : ℕ) → Takes (start v) ds c k ↔ Takes (start v) cs c k
    -- a block is left pending exactly when no allowed order takes it
    pub pending : (c k : ℕ) → (Takes (start v) cs c k → ⊥) ↔ ((ds : List ℕ) → Run (start v) ds → Takes (start v) ds c k → ⊥)
