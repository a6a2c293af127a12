-- `chaining::stand_in` meets its contract: all rows are taken, or the next is the one after those.
use mathlib.Core.Path.{sym}
use native.Mathlib.Omega.{arith}
use Rattle.chaining.proofs.Ways.{stand-last, stand-some}
use Rattle.chaining.proofs.stand_in.Goals as goal

pub returns-then-count-taken : goal.returns-then-count-taken
returns-then-count-taken c = stand-last _ _ _ _ _ c.saturating_sub.ensures (omega arith)

pub returns-else-count-taken : goal.returns-else-count-taken
returns-else-count-taken c = sym (stand-some _ _ _ _ (omega arith))
