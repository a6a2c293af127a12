-- Rows in words, four a row: client, first clock, last end, blocks. And what taking rows from a summary leaves there.
use Rattle.std.specs.Prelude.{ℕ, List, [], ◌∷◌}
use Rattle.summary.specs.Rows.{Row}
use Rattle.summary.specs.Summary.{RowsFound, read, refused}

abbrev pub summary_row : ℕ → ℕ → ℕ → ℕ → Row
summary_row c f e n = record { client = c; first = f; end = e; blocks = n }

unfoldable pub words_in : List Row → List ℕ
words_in [] = []
words_in (r ∷ rows) = r.client ∷ (r.first ∷ (r.end ∷ (r.blocks ∷ words_in rows)))

-- ---- an answer: how many rows, and their words

unfoldable pub words_of : RowsFound → List ℕ
words_of (read rs) = words_in rs
words_of (refused v) = []
