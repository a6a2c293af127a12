-- `picker::open` meets its contract: the fronts of the slots from `i` on make those of all.
use mathlib.Core.Path.{sym, ◌∙◌}
use Rattle.picker.proofs.FrontLaws.{open_turn, open-ended}
use Rattle.picker.proofs.fronts.open.Goals as goal

pub loop-i-preserved : goal.loop-i-preserved
loop-i-preserved c = let a = c.args in
    rw (c.put_front.ensures, c.begin-f.ensures) (open_turn a.slots.now c.loop-i.fronts a.n c.loop-i.i c.loop-i-test.true ∙ c.loop-i.invariant)

pub returns : goal.returns
returns c = let a = c.args in
    sym (open-ended a.slots.now c.loop-i.fronts a.n c.loop-i.i c.loop-i-test.false) ∙ c.loop-i.invariant
