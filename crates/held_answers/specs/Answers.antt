-- What `sort_held` answers: the order in which blocks are taken, the reports, the held ids that were given, and the reading; or a refusal. And how
-- the answer is made of what the sorter says.
use Rattle.std.specs.Prelude.{ℕ, ◌/◌, List, [], length}
use Rattle.numbers.specs.declared.Refusal.{Refusal}
use Rattle.ranges.specs.Ranges.{Range}
use Rattle.updates.specs.Promises.{Reading, refused}
use Rattle.held_answers.specs.declared.SortedHeld.{SortedHeld}

pub record SortHeld : Type 0 where
  pub refusal : Refusal
  -- the numbers of the blocks that are taken, in order
  pub order : List ℕ
  -- the reports in words
  pub counts : List ℕ
  pub pending : List ℕ
  -- the held ids that were given, in normal form
  pub held : List Range
  pub reading : Reading

abbrev pub refused_with : Refusal → SortHeld
refused_with why = record { refusal = why; order = []; counts = []; pending = []; held = []; reading = refused why }

-- ---- what `sort_held` gives

unfoldable pub answered : SortHeld → SortedHeld
answered s =
    record {
      refusal = s.refusal;
      steps = length s.order;
      counts = length s.counts / 2;
      pending = length s.pending / 3;
      blocks = length s.reading.blocks;
      ranges = length s.reading.ranges;
      held = length s.held;
    }
