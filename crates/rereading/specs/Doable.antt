-- What it takes for a diff to be done: form, update and vector are good, form 2 has not too many keys, no cut falls inside a pair, no format changes
-- its form, no difference is too far, and the bytes fit.
use Rattle.std.specs.Prelude.{ℕ, ◌≤◌, ◌≡◌, true, false, List, length}
use Rattle.tokens.specs.Keys.{many_keys}
use Rattle.tokens.specs.Bytes.{near}
use Rattle.kept.specs.Cut.{any_torn}
use Rattle.updates.specs.Promises.{known, reading}
use Rattle.writing.specs.Diff.{diff_tokens, diff_bytes, turned_format}
use Rattle.rereading.specs.Vectors.{Reads, entries_in}
use Rattle.rereading.specs.Again.{kept_by}

-- an update u of a form, against the vector v, in the form `to`, with m block rows, n range rows and so many bytes lent
pub record Doable (form : ℕ) (u v : List ℕ) (to m n room : ℕ) : Type 0 where
  pub target : known to ≡ true
  pub read : (reading form u m n).refusal.number ≡ 0
  pub vector : Reads v
  pub keys : many_keys to (diff_tokens to u (entries_in v) (reading form u m n).blocks (reading form u m n).ranges) ≡ false
  pub untorn : any_torn u (kept_by v (reading form u m n)) ≡ false
  pub formats : turned_format form to (kept_by v (reading form u m n)) ≡ false
  pub close : near to (diff_tokens to u (entries_in v) (reading form u m n).blocks (reading form u m n).ranges) ≡ true
  pub fits : length (diff_bytes to u (entries_in v) (reading form u m n).blocks (reading form u m n).ranges) ≤ room
