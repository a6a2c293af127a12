-- A refusal of what an update has: a number from 1 to 8, so never 0, which says done.
use Rattle.std.specs.Prelude.{ℕ, ◌≤◌}
use Rattle.grammar.specs.Course.{CourseTo}
use Rattle.grammar.specs.Numbered as grammar

abbrev pub Low : ℕ → Type 0
Low n = (1 ≤ n) × (n ≤ 8)

-- if not all of it could be read, the refusal has such a number
abbrev pub Stops : {S E A : Type 0} → CourseTo S E A → Type 0
Stops c = grammar.Stops Low c
