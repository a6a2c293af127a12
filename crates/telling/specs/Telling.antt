-- A draw told: which field a plan draws next, and what its function leaves in the words of reading and in a sheet of lines.
use Rattle.std.specs.Prelude.{ℕ}
use Rattle.grammar.specs.Grammar as grammar
use Rattle.grammar.specs.Grammar.{Field, Answer}

-- ---- the field that a plan draws next

-- what the plan hears of an answer: a number and its place, a text's units, of all else nothing
unfoldable pub heard : (f : Field) → Answer f → ℕ × ℕ
heard (grammar.number n) a = a
heard grammar.text a = (a.1.0, 0)
heard grammar.bytes a = (0, 0)
heard grammar.key a = (0, 0)
heard (grammar.value blame) a = (0, 0)
heard (grammar.values blame n) a = (0, 0)
