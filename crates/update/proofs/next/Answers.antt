-- `update::next` meets its contract: no block left, then no section left, decide.
use Rattle.cells.specs.Cells.{at_in}
use Rattle.update.proofs.Laws.{ends}
use Rattle.update.proofs.next.Goals as goal

pub returns-then-s-eq0-2 : goal.returns-then-s-eq0-2
unfolding at_in
returns-then-s-eq0-2 c = let a = c.args in
    ends a.form a.update.now a.memory.now a.w.now a.r.now a.s c.if-s-eq0.true c.if-s-eq0-2.true c.requires.0

pub returns-then-s-eq0 : goal.returns-then-s-eq0
returns-then-s-eq0 c = c.read_section.ensures

pub returns : goal.returns
returns c = c.read_block.ensures
