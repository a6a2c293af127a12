-- The user's demand 3 over held sets, of a sort by held ids that is done: what its words say of every allowed order, in the record that serves the
-- sort against a vector too (`sorts`).
use Rattle.std.specs.Prelude.{◌≡◌, true, false}
use Rattle.grammar.specs.Course.{Course, things, ending}
use Rattle.ranges.specs.Ranges.{Range, normal}
use Rattle.sorting.specs.Held.{rule_held, held_in, owners}
use Rattle.updates.specs.Promises.{Reading}
use Rattle.held_answers.specs.Answers.{SortHeld}
use Rattle.sorts.specs.Demand.{Demanded}

-- ---- the sort s of a reading r by held ids c

pub record Demand3Held (r : Reading) (c : Course Range) (s : SortHeld) : Type 0 where
  -- both were read whole, and the held ids stand as they were given, in normal form
  pub read : (r.refusal.number ≡ 0) × (ending c (λ _. true) (λ _. false) ≡ true)
  pub reading : s.reading ≡ r
  pub held : s.held ≡ normal (things c)
  pub demanded : Demanded rule_held r.blocks (held_in (normal (things c))) (owners r.blocks) s.order s.counts s.pending
