-- Beside Words: what inner functions say and proofs need. No promise comes to it.
use Rattle.std.specs.Prelude.{ℕ, zero, suc, ◌+◌, ◌*◌, ◌≤◌, ◌≡◌, Bool, ◌&&◌, List, [], ◌∷◌, ltb, leb, length, take, drop, get_or, Result, Ok, Err}
use Rattle.numbers.specs.Number.{pick}
use Rattle.numbers.specs.Output.{padded}
use Rattle.bits.specs.Bits.{of_bytes}
use Rattle.summary.specs.Rows.{Row}
use Rattle.summary.specs.Summary.{RowsFound, read, refused, filled, rows_after}
use Rattle.summary.specs.Words.{summary_row, words_in, words_of}

-- the first row of words, and the first n
abbrev pub row_in : List ℕ → Row
row_in w = summary_row (get_or w 0 0) (get_or w 1 0) (get_or w 2 0) (get_or w 3 0)

unfoldable pub rows_in : ℕ → List ℕ → List Row
rows_in zero w = []
rows_in (suc n) w = row_in w ∷ rows_in n (drop 4 w)

-- one row, by the client above it
unfoldable pub fine : ℕ → Row → Bool
fine above r = ltb r.client above && (ltb 0 r.blocks && leb r.first r.end)

-- n rows taken from behind bit 11 of s into the words w: what follows is decided by whether they are fine, and by what stands behind them
pub record All (s : List ℕ) (n room : ℕ) (w : List ℕ) (good : Bool) : Type 0 where
  pub rows : List Row
  pub count : length rows ≡ n
  pub words : take (4 * n) w ≡ words_in rows
  pub told : rows_after n room [] (drop 11 (of_bytes s)) ≡ pick (good && filled (drop (11 + 131 * n) (of_bytes s))) (read rows) (refused 17)
  pub there : 11 + 131 * n ≤ 8 * length s
  pub fits : 4 * n ≤ length w

unfoldable pub Took : List ℕ → ℕ → ℕ → List ℕ → Result Bool ℕ → Type 0
Took s n room w (Ok good) = All s n room w good
Took s n room w (Err v) = rows_after n room [] (drop 11 (of_bytes s)) ≡ refused v

-- ---- an answer: how many rows, and their words

unfoldable pub answer_of : RowsFound → Result ℕ ℕ
answer_of (read rs) = Ok (length rs)
answer_of (refused v) = Err v

-- what is found, as an answer r and from the words v to the words w
abbrev pub Answers : RowsFound → List ℕ → List ℕ → Result ℕ ℕ → Type 0
Answers found v w r = (r ≡ answer_of found) × (w ≡ padded (length v) (words_of found))
