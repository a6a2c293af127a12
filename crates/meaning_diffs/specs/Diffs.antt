-- What `encode_diff` answers: an update that reads, a vector that reads, and the diff of one against the other, in a form and with so many bytes
-- lent.
use Rattle.std.specs.Prelude.{ℕ, ◌||◌, List, eqb}
use Rattle.numbers.specs.Number.{none, nowhere}
use Rattle.numbers.specs.Output.{verdict}
use Rattle.diffs.specs.Promises.{Diffed, refused_with}
use Rattle.meaning.specs.Reads.{when◌then◌else◌}
use Rattle.meaning.specs.Vector.{vector}
use Rattle.meaning_calls.specs.Reading.{reading, both}
use Rattle.meaning_written.specs.Diff.{diff_bytes, diff_why}

-- an unknown form to write is 12, before all else; what is written blames no byte, and is 10 where it finds no room
unfoldable pub diff_of : ℕ → List ℕ → List ℕ → ℕ → ℕ → ℕ → ℕ → Diffed
diff_of form u v to block_rows range_rows room =
    let r = reading form u block_rows range_rows in
    when eqb to 1 || eqb to 2 then (both r (vector v) refused_with λ es.
    let b = diff_bytes to u es r.blocks r.ranges in
    let why = verdict (diff_why form to u es r.blocks r.ranges) room b in
    when eqb why 0 then record { refusal = none; bytes = b; reading = r } else refused_with (nowhere why))
    else refused_with (nowhere 12)
