-- What is refused before an update is read: an unknown form is 12, an update over its length 3; 0 is neither.
use Rattle.std.specs.Prelude.{ℕ, ◌||◌, List, ltb, eqb, length}
use Rattle.meaning.specs.Reads.{when◌then◌else◌}

unfoldable pub early : ℕ → List ℕ → ℕ
early form u = when eqb form 1 || eqb form 2 then (when ltb 16777215 (length u) then 3 else 0) else 12
