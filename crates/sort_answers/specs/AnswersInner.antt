-- Beside Answers: what inner functions say and proofs need. No promise comes to it.
use Rattle.std.specs.Prelude.{ℕ, ◌/◌, eqb}
use Rattle.numbers.specs.Number.{pick, none}
use Rattle.updates.specs.declared.Update.{Update}
use Rattle.sorter.specs.declared.Sorting.{Sorting}
use Rattle.sort_answers.specs.declared.Sorted.{Sorted}
use Rattle.sort_answers.specs.Answers.{why_not}

-- ---- how the answer is made of what the sorter says

unfoldable pub judged : Sorting → ℕ → ℕ → ℕ → ℕ → ℕ
judged s order counts reaches pending =
    pick (eqb s.number 0)
    (why_not (record { order = order; counts = counts; reaches = reaches; pending = pending }) s.steps s.counts s.reaches s.pending)
    s.number

unfoldable pub answer_to : Update → Sorting → Sorted
answer_to read s =
    record {
      refusal = none;
      steps = s.steps;
      counts = s.counts / 2;
      reaches = s.reaches / 2;
      pending = s.pending / 3;
      blocks = read.blocks;
      ranges = read.ranges;
    }
