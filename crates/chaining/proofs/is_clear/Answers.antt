-- `chaining::is_clear` meets its contract: before all Skips, or behind them.
use mathlib.Core.Path.{◌∙◌}
use native.Mathlib.Omega.{arith}
use borrow.Author.Tests.{lt-ltb}
use Rattle.chaining.proofs.Ways.{clear-before, clear_behind}
use Rattle.chaining.proofs.is_clear.Goals as goal

pub returns-then-k-t : goal.returns-then-k-t
returns-then-k-t c = lt-ltb _ _ c.if-k-t.true ∙ clear-before _ _ (omega arith)

pub returns-else-k-t : goal.returns-else-k-t
returns-else-k-t c = rw c.from-k.ensures (clear_behind _ _ (omega arith))
