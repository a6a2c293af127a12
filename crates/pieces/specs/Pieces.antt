-- What stands in line, read as it arrives: nothing at first, then a piece after another, then the end.
use Rattle.std.specs.Prelude.{ℕ, List, []}
use Rattle.grammar.specs.Grammar.{Grammar}
use Rattle.grammar.specs.Course.{CourseTo}
use Rattle.grammar.specs.Fragments.{begin, arrives}
use Rattle.decoder.specs.Line.{line}

unfoldable pub in_pieces : {E A : Type 0} → ℕ → Grammar E A → ℕ → List (List ℕ) → CourseTo ℕ E A
in_pieces form x at pieces = arrives (line form) [] (begin (line form []) x at) pieces
