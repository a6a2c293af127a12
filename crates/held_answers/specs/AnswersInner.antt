-- Beside Answers: what inner functions say and proofs need. No promise comes to it.
use Rattle.std.specs.Prelude.{ℕ, ◌/◌, true, false, List, length}
use Rattle.numbers.specs.Number.{none}
use Rattle.grammar.specs.Course.{things, ending}
use Rattle.ranges.specs.Ranges.{normal}
use Rattle.deletes.specs.DeleteSet.{taken, words_of}
use Rattle.updates.specs.declared.Update.{Update}
use Rattle.sorter.specs.declared.Sorting.{Sorting}
use Rattle.held_answers.specs.declared.SortedHeld.{SortedHeld}
use Rattle.held_answers.specs.declared.HeldRead.{HeldRead}

-- ---- held ids, as a form 1 delete set from byte 0 on, read into n words

abbrev pub given : ℕ → HeldRead
given n = record { refused = false; number = 0; ranges = n }

abbrev pub not_given : ℕ → HeldRead
not_given why = record { refused = true; number = why; ranges = 0 }

unfoldable pub read_held : List ℕ → ℕ → HeldRead
read_held v n = ending (taken 1 v 0 n) (λ t. given (length (normal (things (taken 1 v 0 n))))) (λ why. not_given why.number)

unfoldable pub words_given : List ℕ → ℕ → List ℕ
words_given v n = words_of 1 v 0 n

-- ---- how the answer is made of what the sorter says

unfoldable pub answer_to : Update → ℕ → Sorting → SortedHeld
answer_to read held s =
    record {
      refusal = none;
      steps = s.steps;
      counts = s.counts / 2;
      pending = s.pending / 3;
      blocks = read.blocks;
      ranges = read.ranges;
      held = held;
    }
