-- What `sort` answers: the order in which blocks are taken, the reports, and the reading that they are made of; or a refusal. And how the answer is
-- made of what the sorter says.
use Rattle.std.specs.Prelude.{ℕ, ◌/◌, Bool, true, List, [], ltb, eqb, length}
use Rattle.numbers.specs.declared.Refusal.{Refusal}
use Rattle.numbers.specs.Number.{pick}
use Rattle.updates.specs.Promises.{Reading, refused}
use Rattle.sort_answers.specs.declared.Sorted.{Sorted}

pub record Sort : Type 0 where
  pub refusal : Refusal
  -- the numbers of the blocks that are taken, in order
  pub order : List ℕ
  -- the reports in words
  pub counts : List ℕ
  pub reaches : List ℕ
  pub pending : List ℕ
  pub reading : Reading

abbrev pub refused_with : Refusal → Sort
refused_with why = record { refusal = why; order = []; counts = []; reaches = []; pending = []; reading = refused why }

-- the rules that a caller may name
unfoldable pub is_rule : ℕ → Bool
is_rule rule = pick (eqb rule 13) true (eqb rule 28)

-- ---- how many words are lent for each

pub record Room : Type 0 where
  pub order : ℕ
  pub counts : ℕ
  pub reaches : ℕ
  pub pending : ℕ

-- more steps than words lent for the order are 8, then a report that is too short 10
unfoldable pub why_not : Room → ℕ → ℕ → ℕ → ℕ → ℕ
why_not m order counts reaches pending =
    pick (ltb m.order order) 8 (pick (ltb m.counts counts) 10 (pick (ltb m.reaches reaches) 10 (pick (ltb m.pending pending) 10 0)))

-- ---- what `sort` gives

unfoldable pub answered : Sort → Sorted
answered s =
    record {
      refusal = s.refusal;
      steps = length s.order;
      counts = length s.counts / 2;
      reaches = length s.reaches / 2;
      pending = length s.pending / 3;
      blocks = length s.reading.blocks;
      ranges = length s.reading.ranges;
    }
