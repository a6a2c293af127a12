-- That a summary is what `write_summary` promises.
use Prim.Native.Nat.{ℕ}
use mathlib.Core.Path.{◌≡◌, refl, sym}
use mathlib.Core.Bool.{Bool, true, false}
use mathlib.Core.List.{List}
use lib.Dec.{ltb}
use lib.ListN.{length}
use Rattle.grammar.specs.Course.{things}
use Rattle.decoder.specs.Update.{blocks_of}
use Rattle.gathered.specs.RowsOf as told
use Rattle.gathered.specs.RowsOf.{rows_of, told_of}
use Rattle.summary.specs.Summary.{one, summary_of}
use Rattle.summaries.specs.Promises as summaries
use Rattle.summaries.specs.Promises.{made_of, fitted}
use Rattle.meaning.specs.Reads.{when◌then◌else◌}
use Rattle.meaning_calls.specs.SummaryInner.{fitting, summary_in}
use Rattle.meaning_calls.proofs.Enough.{ended-then, all-is}

fitting-same : (n : ℕ) (b : List ℕ) → fitted n (summaries.bytes b) ≡ fitting n b
unfolding fitted fitting when◌then◌else◌
fitting-same n b = go (ltb n (length b)) refl
  where
    go : (x : Bool) → ltb n (length b) ≡ x → fitted n (summaries.bytes b) ≡ fitting n b
    go true e = rw e
    go false e = rw e

pub summary-same : (form : ℕ) (u : List ℕ) (n : ℕ) → summaries.summary_in form u n ≡ summary_in form u n
unfolding summaries.summary_in made_of fitted told_of summary_in
summary-same form u n =
    let rows = rows_of (things (blocks_of form u)) in
    rw (ended-then form u (λ t. fitted n (made_of t)) (told.rows rows) told.refused, fitting-same n (summary_of one rows))
    (sym (all-is form u (λ bs. fitting n (summary_of one (rows_of bs))) summaries.refused))
