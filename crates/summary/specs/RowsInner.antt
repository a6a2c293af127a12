-- Beside Rows: what inner functions say and proofs need. No promise comes to it.
use Rattle.std.specs.Prelude.{◌^◌, ◌<◌, List, [], ◌∷◌}
use Rattle.summary.specs.Rows.{Row}

-- each number has room in its bits
pub record Fits (r : Row) : Type 0 where
  pub client : r.client < 2 ^ 53
  pub first : r.first < 2 ^ 31
  pub end : r.end < 2 ^ 31
  pub blocks : r.blocks < 2 ^ 16

abbrev pub AllFit : List Row → Type 0
AllFit [] = Unit {0}
AllFit (r ∷ rows) = Fits r × AllFit rows
