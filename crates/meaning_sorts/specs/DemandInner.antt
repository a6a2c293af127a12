-- Demand 3 in the words of the long promises, against a vector and by held ids. No promise comes to it: Demand says the same of the short ones.
use Rattle.std.specs.Prelude.{ℕ, ◌≡◌, List, []}
use Rattle.ranges.specs.Ranges.{Range, normal}
use Rattle.updates.specs.Promises.{Reading}
use Rattle.vector.specs.Vector.{Entry}
use Rattle.kept.specs.Kept.{remote}
use Rattle.sorting.specs.Steps.{start, after, Ends}
use Rattle.sorting.specs.Rules.{Rule}
use Rattle.sorting.specs.Held.{rule_held, held_in}
use Rattle.sorting.specs.Sorted.{all_clients, steps, reaches_in}
use Rattle.sort_answers.specs.Answers.{Sort}
use Rattle.held_answers.specs.Answers.{SortHeld}
use Rattle.sorts.specs.Demand.{Demanded}

-- the sort s of a reading r against the entries of a vector, by a rule R
pub record Demand3 (R : Rule ℕ) (r : Reading) (es : List Entry) (s : Sort) : Type 0 where
  pub reading : s.reading ≡ r
  pub demanded : Demanded R r.blocks (remote es) (all_clients r.blocks es) s.order s.counts s.pending
  -- the reaches, on the end of every whole run
  pub reaches : (cs : List ℕ) → Ends (steps R r.blocks) (start (remote es)) cs
      → s.reaches ≡ reaches_in (after (steps R r.blocks) (start (remote es)) cs) (all_clients r.blocks es)

-- by the ids that ranges hold, which stand as they were given, in normal form
pub record Demand3Held (r : Reading) (rs : List Range) (s : SortHeld) : Type 0 where
  pub reading : s.reading ≡ r
  pub held : s.held ≡ normal rs
  pub demanded : Demanded rule_held r.blocks (held_in (normal rs)) (all_clients r.blocks []) s.order s.counts s.pending
