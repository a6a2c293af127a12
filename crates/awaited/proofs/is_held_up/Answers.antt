-- `awaited::is_held_up` meets its contract: a dependency that is not there, or one that is, met or not.
use borrow.Author.Tests.{not-true, not-false}
use Rattle.slots.specs.Slots.{slots_from}
use Rattle.awaited.proofs.Waits.{absent, present}
use Rattle.awaited.proofs.is_held_up.Goals as goal

pub returns-then-not-a : goal.returns-then-not-a
returns-then-not-a c = let a = c.args in
    absent (slots_from a.slots.now 0 a.n) a.reach.now a.a (not-true a.a.there c.if-not-a.true)

pub returns : goal.returns
returns c = let a = c.args in
    present (slots_from a.slots.now 0 a.n) a.reach.now a.a (not-false a.a.there c.if-not-a.false)
    c.rank_of-p.result c.is_at-named.result c.rank_of-p.ensures.0 c.is_at-named.ensures c.is_met.result c.is_met.ensures
