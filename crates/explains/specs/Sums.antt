-- What is said of every line that `explain` tells: where its value is a difference, base and difference come to that value.
use Rattle.std.specs.Prelude.{◌+◌, ◌≡◌, List, [], ◌∷◌}
use Rattle.origins.specs.declared.Line.{Line}

-- sign 1: plus; 2: minus; 0: the value stands in the bytes as it is, and nothing is said
pub record Adds (l : Line) : Type 0 where
  pub plus : l.rise.sign ≡ 1 → l.value ≡ l.rise.base + l.rise.size
  pub minus : l.rise.sign ≡ 2 → l.value + l.rise.size ≡ l.rise.base

unfoldable pub Sums : List Line → Type 0
Sums [] = Unit {0}
Sums (l ∷ ls) = Adds l × Sums ls
