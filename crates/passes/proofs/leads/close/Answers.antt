-- `leads::close` meets its contract: in line there is nothing to end.
use mathlib.Core.Path.{◌∙◌}
use Rattle.passes.proofs.Places.{ends-line, ends-lanes}
use Rattle.passes.proofs.leads.close.Goals as goal

pub returns-then-form-eq1 : goal.returns-then-form-eq1
returns-then-form-eq1 c = let a = c.args in ends-line a.out.now a.lanes.now 0 c.if-form-eq1.true

pub returns : goal.returns
returns c = let p4 = c in
    let p7 = c in
    let a = p7.args in
    p4.close.ensures.1 ∙ ends-lanes a.out.now a.lanes.now 0 p7.if-form-eq1.false
