-- `placing::is_before` meets its contract: of another client, or of the same and then by clocks.
use mathlib.Core.Path.{sym, ◌∙◌}
use native.Mathlib.Omega.{arith}
use borrow.Author.Tests.{lt-leb}
use Rattle.placing.proofs.Places.{before-other, before-not, before-by}
use Rattle.ranges.specs.TableInner.{row}
use Rattle.placing.proofs.is_before.Goals as goal

pub returns-then-id-client : goal.returns-then-id-client
unfolding row
returns-then-id-client c = let a = c.args in before-other (row a.words.now a.i) a.id c.if-id-client.true

pub returns-then-clock-k : goal.returns-then-clock-k
unfolding row
returns-then-clock-k c = let a = c.args in
    rw c.from-k.ensures (before-by (row a.words.now a.i) a.id c.if-id-client.false (omega arith))

pub returns-else-clock-k : goal.returns-else-clock-k
unfolding row
returns-else-clock-k c = let a = c.args in
    lt-leb _ _ c.if-clock-k.false ∙ sym (before-not (row a.words.now a.i) a.id c.if-id-client.false (omega arith))
