-- What a diff keeps of an update's blocks: sections, highest client first, each with pieces of blocks.
use Rattle.std.specs.Prelude.{ℕ, ◌+◌, ◌-◌, Bool, true, List, [], ◌∷◌, map, ltb, leb, eqb}
use Rattle.numbers.specs.Number.{pick}
use Rattle.block.specs.declared.Block.{Block}
use Rattle.block.specs.Kinds.{is_skip}
use Rattle.vector.specs.Vector.{Entry}
use Rattle.readings.specs.Groups.{groups}

-- the units of a block from `from` up to `to`
pub record Piece : Type 0 where
  pub row : Block
  pub from : ℕ
  pub to : ℕ

abbrev pub piece : Block → ℕ → ℕ → Piece
piece b from to = record { row = b; from = from; to = to }

pub record Section : Type 0 where
  pub client : ℕ
  pub pieces : List Piece

-- ---- what the other side has

-- the remote clock of a client: 0 where the vector does not name it
unfoldable pub remote : List Entry → ℕ → ℕ
remote [] c = 0
remote (e ∷ es) c = pick (eqb e.client c) e.clock (remote es c)

-- ---- of one client's blocks, against its remote clock

-- Skips, and blocks that end at or below the remote clock, fall away
unfoldable pub falls : ℕ → Block → Bool
falls k b = pick (is_skip b.kind) true (leb (b.clock + b.length.0) k)

abbrev pub whole_piece : Block → Piece
whole_piece b = piece b 0 b.length.0

-- leading blocks fall; the first that does not is cut by what the other side has of it; all later ones stay
unfoldable pub keep_from : ℕ → List Block → List Piece
keep_from k [] = []
keep_from k (b ∷ bs) = pick (falls k b) (keep_from k bs) (piece b (k - b.clock) b.length.0 ∷ map whole_piece bs)

-- ---- of all clients

-- a client with nothing left vanishes
unfoldable pub with_pieces : ℕ → List Piece → List Section → List Section
with_pieces c [] ss = ss
with_pieces c (p ∷ ps) ss = record { client = c; pieces = p ∷ ps } ∷ ss

unfoldable pub keep_each : List Entry → List (List Block) → List Section
keep_each v [] = []
keep_each v ([] ∷ gs) = keep_each v gs
keep_each v ((b ∷ bs) ∷ gs) = with_pieces b.client (keep_from (remote v b.client) (b ∷ bs)) (keep_each v gs)

-- highest client first
unfoldable pub put_section : Section → List Section → List Section
put_section s [] = s ∷ []
put_section s (t ∷ ts) = pick (ltb s.client t.client) (t ∷ put_section s ts) (s ∷ (t ∷ ts))

unfoldable pub falling : List Section → List Section
falling [] = []
falling (s ∷ ss) = put_section s (falling ss)

abbrev pub client_of : Block → ℕ
client_of b = b.client

unfoldable pub sections_of : List Entry → List Block → List Section
sections_of v bs = falling (keep_each v (groups client_of bs))
