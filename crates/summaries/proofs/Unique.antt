-- No other answer fits: two answers that keep the promise of `write_summary`, or of `read_summary`, for the same inputs are the same, and so is what is lent
-- back, whatever stood in what was lent, if it was as long.
use Prim.Native.Nat.{ℕ}
use mathlib.Core.Path.{◌≡◌}
use mathlib.Core.List.{List}
use lib.ListN.{length}
use Rattle.summaries.specs.declared.Summarized.{Summarized}
use Rattle.summaries.specs.declared.SummaryRows.{SummaryRows}
use Rattle.summaries.specs.Promises.{WriteSummary, ReadSummary}

pub only-write-summary : (form : ℕ) (u out out' : List ℕ) (r r' : Summarized) (out₁ out₁' : List ℕ) → length out ≡ length out'
    → WriteSummary form u out r out₁ → WriteSummary form u out' r' out₁' → (r ≡ r') × (out₁ ≡ out₁')
only-write-summary form u out out' r r' out₁ out₁' long p q = (cc, cc)

pub only-read-summary : (s rows rows' : List ℕ) (r r' : SummaryRows) (rows₁ rows₁' : List ℕ) → length rows ≡ length rows'
    → ReadSummary s rows r rows₁ → ReadSummary s rows' r' rows₁' → (r ≡ r') × (rows₁ ≡ rows₁')
only-read-summary s rows rows' r r' rows₁ rows₁' long p q = (cc, cc)
