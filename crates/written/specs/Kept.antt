-- Which sections and which delete ranges are written in a form and read again: what a diff keeps of an update u, where it cuts inside no pair.
use Rattle.std.specs.Prelude.{ℕ, ◌+◌, ◌≤◌, ◌<◌, ◌≡◌, ◌⊎◌, false, List, [], ◌∷◌, map, length}
use Rattle.numbers.specs.Limits.{max_clients, max_blocks}
use Rattle.ranges.specs.Ranges.{Range}
use Rattle.ranges.specs.RangesInner.{Normal}
use Rattle.ranges.specs.TableInner.{Fine}
use Rattle.readings.specs.Sound.{All}
use Rattle.readings.specs.SoundInner.{Sound, Valued}
use Rattle.readings.specs.Groups.{groups, Distinct}
use Rattle.kept.specs.Kept.{Piece, Section}
use Rattle.kept.specs.KeptInner.{Whole, Inside, piece_count}
use Rattle.kept.specs.Cut.{torn}
use Rattle.records.specs.Records.{owner_of}

-- ---- sections

-- all of a sound row, or some of its units; neither end lies inside a pair, and a format has its value as the form has it
pub record KeptPiece (form : ℕ) (u : List ℕ) (p : Piece) : Type 0 where
  pub sound : Sound u p.row
  pub valued : Valued form u p.row
  pub ends : Whole p ⊎ Inside p
  pub clean : torn u p ≡ false

-- each piece starts where the one before ended
unfoldable pub Meets : Piece → List Piece → Type 0
Meets p [] = Unit {0}
Meets p (q ∷ qs) = q.row.clock + q.from ≡ p.row.clock + p.to

unfoldable pub Joined : List Piece → Type 0
Joined [] = Unit {0}
Joined (p ∷ ps) = Meets p ps × Joined ps

abbrev pub client_in : Section → ℕ
client_in s = s.client

-- pieces of the section's client, each starting where the one before ended
pub record KeptSection (form : ℕ) (u : List ℕ) (s : Section) : Type 0 where
  pub some : 0 < length s.pieces
  pub each : All (KeptPiece form u) s.pieces
  pub client : All (λ (p : Piece). p.row.client ≡ s.client) s.pieces
  pub joined : Joined s.pieces

pub record Kept (form : ℕ) (u : List ℕ) (ss : List Section) : Type 0 where
  pub count : length ss ≤ max_clients
  pub clients : Distinct (map client_in ss)
  pub each : All (KeptSection form u) ss
  pub pieces : piece_count ss ≤ max_blocks

-- no piece is torn
abbrev pub Clean : List ℕ → List Section → Type 0
Clean u ss = All (λ (s : Section). All (λ (p : Piece). torn u p ≡ false) s.pieces) ss

-- ---- delete ranges

pub record KeptRanges (rs : List Range) : Type 0 where
  pub normal : Normal rs
  pub fine : All Fine rs
  pub clients : length (groups owner_of rs) ≤ max_clients
