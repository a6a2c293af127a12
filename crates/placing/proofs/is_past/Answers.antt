-- `placing::is_past` meets its contract: the block starts above the clock, or by its length.
use mathlib.Core.Path.{sym, ◌∙◌}
use borrow.Author.Tests.{lt-leb}
use Rattle.placing.proofs.Places.{past-none, past-less}
use Rattle.placing.proofs.is_past.Goals as goal

pub returns-then-from-clock : goal.returns-then-from-clock
returns-then-from-clock c = let a = c.args in rw c.from.ensures (past-less a.b a.clock c.if-from-clock.true)

pub returns-else-from-clock : goal.returns-else-from-clock
returns-else-from-clock c = let a = c.args in
    lt-leb a.b.clock a.clock c.if-from-clock.false ∙ sym (past-none a.b a.clock c.if-from-clock.false)
