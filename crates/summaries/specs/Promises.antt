-- The promises of `write_summary` and `read_summary`: each answer, and all that is lent, as equations of the inputs.
use Rattle.std.specs.Prelude.{ℕ, ◌/◌, ◌≡◌, List, [], ltb, length}
use Rattle.numbers.specs.declared.Refusal.{Refusal}
use Rattle.numbers.specs.Number.{pick, none, nowhere}
use Rattle.numbers.specs.Limits.{max_update}
use Rattle.numbers.specs.Output.{padded}
use Rattle.summary.specs.Summary as summary
use Rattle.summary.specs.Summary.{one, summary_of, read_of}
use Rattle.summary.specs.Words.{words_of}
use Rattle.gathered.specs.RowsOf as told
use Rattle.gathered.specs.RowsOf.{told_of}
use Rattle.summaries.specs.declared.Summarized.{Summarized}
use Rattle.summaries.specs.declared.SummaryRows.{SummaryRows}

-- ---- written: the bytes of a summary, or a refusal

pub data Made : Type 0 where
  bytes : List ℕ → Made
  refused : Refusal → Made

unfoldable pub made_of : told.Told → Made
made_of (told.rows rs) = bytes (summary_of one rs)
made_of (told.refused why) = refused why

-- 10 where n bytes do not take it
unfoldable pub fitted : ℕ → Made → Made
fitted n (bytes b) = pick (ltb n (length b)) (refused (nowhere 10)) (bytes b)
fitted n (refused why) = refused why

-- the form first (12), then the update's length (3), then what the update says, at its place; 10 last
unfoldable pub summary_in : ℕ → List ℕ → ℕ → Made
summary_in form u n =
    pick (ltb form 1) (refused (nowhere 12))
    (pick (ltb 2 form) (refused (nowhere 12))
    (pick (ltb max_update (length u)) (refused (nowhere 3)) (fitted n (made_of (told_of form u)))))

unfoldable pub summarized : Made → Summarized
summarized (bytes b) = record { refusal = none; bytes = length b }
summarized (refused why) = record { refusal = why; bytes = 0 }

unfoldable pub made_bytes : Made → List ℕ
made_bytes (bytes b) = b
made_bytes (refused why) = []

-- the answer r, and the bytes lent, from `out` to `out₁`
abbrev pub WriteSummary : ℕ → List ℕ → List ℕ → Summarized → List ℕ → Type 0
WriteSummary form u out r out₁ =
    (r ≡ summarized (summary_in form u (length out))) × (out₁ ≡ padded (length out) (made_bytes (summary_in form u (length out))))

-- ---- read: how many rows, or a refusal, which blames no byte

unfoldable pub rows_answer : summary.RowsFound → SummaryRows
rows_answer (summary.read rs) = record { refusal = none; count = length rs }
rows_answer (summary.refused n) = record { refusal = nowhere n; count = 0 }

-- the answer r, and the words lent, four a row, from `rows` to `rows₁`
abbrev pub ReadSummary : List ℕ → List ℕ → SummaryRows → List ℕ → Type 0
ReadSummary s rows r rows₁ = (r ≡ rows_answer (read_of (length rows / 4) s)) × (rows₁ ≡ padded (length rows) (words_of (read_of (length rows / 4) s)))
