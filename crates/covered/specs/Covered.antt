-- The ids that blocks cover, and that pieces of blocks do: an id is a client and a clock, and a Skip covers none.
use Rattle.std.specs.Prelude.{ℕ, ◌+◌, ◌≤◌, ◌<◌, ◌≡◌, ◌⊎◌, ◌≢◌, List, [], ◌∷◌}
use Rattle.block.specs.declared.Block.{Block}
use Rattle.block.specs.Kinds.{SKIP}
use Rattle.kept.specs.Kept.{Piece, Section}

-- b is no Skip, and the id (c, k) lies in it
pub record Covers (b : Block) (c k : ℕ) : Type 0 where
  pub client : b.client ≡ c
  pub kind : b.kind ≢ SKIP
  pub from : b.clock ≤ k
  pub below : k < b.clock + b.length.0

-- one of these does
abbrev pub Covered : List Block → ℕ → ℕ → Type 0
Covered [] c k = ⊥
Covered (b ∷ bs) c k = Covers b c k ⊎ Covered bs c k

-- ---- the same of pieces

pub record Holds (p : Piece) (c k : ℕ) : Type 0 where
  pub client : p.row.client ≡ c
  pub kind : p.row.kind ≢ SKIP
  pub from : p.row.clock + p.from ≤ k
  pub below : k < p.row.clock + p.to

abbrev pub Held : List Piece → ℕ → ℕ → Type 0
Held [] c k = ⊥
Held (p ∷ ps) c k = Holds p c k ⊎ Held ps c k

abbrev pub HeldIn : List Section → ℕ → ℕ → Type 0
HeldIn [] c k = ⊥
HeldIn (s ∷ ss) c k = Held s.pieces c k ⊎ HeldIn ss c k

-- ---- both say the same

pub record Both (P Q : Type 0) : Type 0 where
  pub to : P → Q
  pub from : Q → P
