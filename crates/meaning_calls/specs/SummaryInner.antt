-- A summary over the short reading, in the words of the long promise. No promise comes to it: `meaning_summaries` says the same shorter.
use Rattle.std.specs.Prelude.{ℕ, List, ltb, length}
use Rattle.numbers.specs.Number.{nowhere}
use Rattle.summary.specs.Summary.{one, summary_of}
use Rattle.gathered.specs.RowsOf.{rows_of}
use Rattle.summaries.specs.Promises as summaries
use Rattle.summaries.specs.Promises.{Made}
use Rattle.meaning.specs.Reads.{when◌then◌else◌, comes_to}
use Rattle.meaning_calls.specs.Reading.{all_of}

-- the summary's bytes, 10 where n bytes do not take it
unfoldable pub fitting : ℕ → List ℕ → Made
fitting n b = when ltb n (length b) then summaries.refused (nowhere 10) else summaries.bytes b

unfoldable pub summary_in : ℕ → List ℕ → ℕ → Made
summary_in form u n = comes_to (λ x s. fitting n (summary_of one (rows_of x.0))) summaries.refused (all_of form u)
