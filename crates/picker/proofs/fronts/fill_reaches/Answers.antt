-- `picker::fill_reaches` meets its contract: the reaches of the slots from `i` on make those of all.
use mathlib.Core.Path.{sym, ◌∙◌}
use Rattle.kept.specs.Plan.{entries_of}
use Rattle.picker.proofs.FrontLaws.{fill-turn, fill-ended}
use Rattle.picker.proofs.fronts.fill_reaches.Goals as goal

pub loop-i-preserved : goal.loop-i-preserved
loop-i-preserved c = let a = c.args in
    rw (c.put_word.ensures, c.remote_clock-clock.ensures)
    (fill-turn a.slots.now c.loop-i.reach a.n c.loop-i.i (entries_of a.m a.clients.now a.clocks.now) c.loop-i-test.true ∙ c.loop-i.invariant)

pub returns : goal.returns
returns c = let a = c.args in
    sym (fill-ended a.slots.now c.loop-i.reach a.n c.loop-i.i (entries_of a.m a.clients.now a.clocks.now) c.loop-i-test.false) ∙ c.loop-i.invariant
