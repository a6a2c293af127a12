-- A table of ranges as words, three a row: client, clock, length.
use Rattle.std.specs.Prelude.{List, [], ◌∷◌, ℕ}
use Rattle.ranges.specs.Ranges.{Range}

abbrev pub range : ℕ → ℕ → ℕ → Range
range client clock len = record { client = client; clock = clock; len = len }

-- the words of ranges, one after the other
unfoldable pub flat : List Range → List ℕ
flat [] = []
flat (r ∷ rs) = r.client ∷ r.clock ∷ r.len ∷ flat rs
