-- Beside Kept: what inner functions say and proofs need. No promise comes to it.
use Rattle.std.specs.Prelude.{ℕ, ◌+◌, ◌≤◌, ◌<◌, ◌≡◌, true, false, List, [], ◌∷◌, map, eqb, length}
use Rattle.numbers.specs.Number.{pick}
use Rattle.block.specs.declared.Block.{Block}
use Rattle.block.specs.Kinds.{is_skip, is_item}
use Rattle.readings.specs.Sound.{All}
use Rattle.readings.specs.SoundInner.{Sound, Chain}
use Rattle.kept.specs.Kept.{Piece, Section, whole_piece, with_pieces}

-- ---- what is said of sections

-- each is below all before it
unfoldable pub Descends : List ℕ → Type 0
Descends [] = Unit {0}
Descends (c ∷ cs) = All (λ (d : ℕ). d < c) cs × Descends cs

abbrev pub clients_of : List Section → List ℕ
clients_of ss = map (λ (s : Section). s.client) ss

unfoldable pub piece_count : List Section → ℕ
piece_count [] = 0
piece_count (s ∷ ss) = length s.pieces + piece_count ss

abbrev pub rows_of : List Piece → List Block
rows_of ps = map (λ (p : Piece). p.row) ps

-- a section's first piece is all that is left of its row; a cut lies inside the row, and of an item something is left
pub record Begins (p : Piece) : Type 0 where
  pub to : p.to ≡ p.row.length.0
  pub from : p.from ≤ p.row.length.0
  pub inside : 0 < p.from → p.from < p.row.length.0
  pub some : is_item p.row.kind ≡ true → p.from < p.row.length.0
  pub kept : is_skip p.row.kind ≡ false

pub record Whole (p : Piece) : Type 0 where
  pub from : p.from ≡ 0
  pub to : p.to ≡ p.row.length.0

-- some of its row's units
pub record Inside (p : Piece) : Type 0 where
  pub some : p.from < p.to
  pub most : p.to ≤ p.row.length.0

-- some pieces, only the first of them cut
unfoldable pub Pieces : List Piece → Type 0
Pieces [] = ⊥
Pieces (p ∷ ps) = Begins p × All Whole ps

pub record SoundSection (u : List ℕ) (s : Section) : Type 0 where
  pub pieces : Pieces s.pieces
  pub client : All (λ (b : Block). b.client ≡ s.client) (rows_of s.pieces)
  pub chain : Chain (rows_of s.pieces)
  pub sound : All (Sound u) (rows_of s.pieces)

-- ---- where the other side has nothing: leading Skips, and leading blocks that end at 0, fall all the same

unfoldable pub without_lead : List Block → List Block
without_lead [] = []
without_lead (b ∷ bs) = pick (pick (is_skip b.kind) true (eqb (b.clock + b.length.0) 0)) (without_lead bs) (b ∷ bs)

unfoldable pub whole_each : List (List Block) → List Section
whole_each [] = []
whole_each ([] ∷ gs) = whole_each gs
whole_each ((b ∷ bs) ∷ gs) = with_pieces b.client (map whole_piece (without_lead (b ∷ bs))) (whole_each gs)
