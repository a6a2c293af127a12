-- `chaining::see` meets its contract: a clock before all rows, one before the next row, or another.
use mathlib.Core.Path.{sym, ◌∙◌}
use mathlib.Core.Bool.{true, false}
use native.Mathlib.Omega.{arith}
use Rattle.chaining.proofs.Ways.{see-before, see-below, see-from}
use Rattle.chaining.proofs.see.Goals as goal

pub returns-then-clock-first : goal.returns-then-clock-first
returns-then-clock-first c = see-before _ _ _ _ (omega arith)

pub returns-then-is_clear : goal.returns-then-is_clear
returns-then-is_clear c = see-below _ _ _ _ (omega arith) true (omega arith) (sym c.is_clear.ensures ∙ c.if-is_clear.true)

pub returns-then-clock-next : goal.returns-then-clock-next
returns-then-clock-next c = see-below _ _ _ _ (omega arith) false (omega arith) (sym c.is_clear.ensures ∙ c.if-is_clear.false)

pub returns : goal.returns
returns c = c.see_next.ensures ∙ see-from _ _ _ _ (omega arith) (omega arith)
