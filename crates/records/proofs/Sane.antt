-- What a row has of which the cut lies within it.
use Prim.Native.Nat.{◌+◌, ◌≤◌}
use mathlib.Core.Path.{◌≡◌}
use mathlib.Core.Bool.{true}
use native.Mathlib.Omega.{arith}
use Rattle.numbers.specs.Limits.{max_clock}
use Rattle.block.specs.declared.Block.{Block}
use Rattle.kept.specs.declared.cursor.Ends.{Ends}
use Rattle.kept.specs.Plan.{sane}
use Rattle.kept.proofs.Sane.{sane-within}

pub sane-limits : (b : Block) (e : Ends) → sane b e ≡ true → b.clock + e.from.0 ≤ max_clock
sane-limits b e h = let w = sane-within b e h in omega (arith, w.some, w.units, w.end)
