-- That a diff is what `encode_diff` promises.
use Prim.Native.Nat.{ℕ}
use mathlib.Core.Path.{◌≡◌, refl}
use mathlib.Core.Bool.{◌||◌}
use mathlib.Core.List.{List}
use lib.Dec.{eqb}
use Rattle.numbers.specs.Number.{none, nowhere}
use Rattle.numbers.specs.Output.{verdict}
use Rattle.vector.specs.Vector.{Entry, vector_of}
use Rattle.updates.specs.Promises.{Reading, known}
use Rattle.diffs.specs.Promises as promises
use Rattle.diffs.specs.Promises.{Diffed, refused_with, why_not, diffed, against, after_reading}
use Rattle.meaning.specs.Reads.{when◌then◌else◌}
use Rattle.meaning.proofs.Vector.{vector-same}
use Rattle.meaning_calls.specs.Reading.{reading}
use Rattle.meaning_calls.proofs.Reading.{reading-same}
use Rattle.meaning_calls.proofs.Both.{both-same}
use Rattle.meaning_written.specs.Diff.{diff_bytes, diff_why}
use Rattle.meaning_written.proofs.Kept.{alike, either}
use Rattle.meaning_written.proofs.Diff.{bytes_same, why-diff-same}
use Rattle.meaning_diffs.specs.Diffs.{diff_of}

-- ---- a diff

-- of what was read, against entries
module _ (u : List ℕ) (form to room : ℕ) (r : Reading) where
  abbrev written : List Entry → Diffed
  written es =
      let b = diff_bytes to u es r.blocks r.ranges in
      let why = verdict (diff_why form to u es r.blocks r.ranges) room b in
      when eqb why 0 then record { refusal = none; bytes = b; reading = r } else refused_with (nowhere why)

  diffed-same : (es : List Entry) → diffed u es form to room r ≡ written es
  unfolding diffed why_not
  diffed-same es =
      let b = diff_bytes to u es r.blocks r.ranges in
      let why = verdict (diff_why form to u es r.blocks r.ranges) room b in
      rw (bytes_same to u es r.blocks r.ranges, why-diff-same form to u es r.blocks r.ranges) (alike (eqb why 0) refl refl)

pub diff-same : (form : ℕ) (u v : List ℕ) (to block_rows range_rows room : ℕ)
    → promises.diff_of form u v to block_rows range_rows room ≡ diff_of form u v to block_rows range_rows room
unfolding promises.diff_of known after_reading against diff_of
diff-same form u v to block_rows range_rows room =
    let r = reading form u block_rows range_rows in
    rw (reading-same form u block_rows range_rows, vector-same v, either (eqb to 1) (eqb to 2))
    (alike (eqb to 1 || eqb to 2)
    (both-same r (vector_of v) refused_with (λ es. diffed u es form to room r) (written u form to room r) (diffed-same u form to room r)) refl)
