-- `picker::consider` meets its contract: a dependency that is not there, one that was looked at before, one that is met, or one that is not.
use mathlib.Core.Path.{sym, ◌∙◌}
use borrow.Author.Tests.{not-true, not-false}
use Rattle.slots.specs.Slots.{slots_from}
use Rattle.picker.proofs.Looks.{not_there, is-met, not-met}
use Rattle.picker.proofs.consider.Goals as goal

pub returns-then-not-a : goal.returns-then-not-a
returns-then-not-a c = let a = c.args in
    c.set_ready.ensures
    ∙ sym (not_there (slots_from a.slots.now 0 a.n) a.reach.now a.f a.k a.a (not-true a.a.there c.if-not-a.true))

pub returns-then-is_met : goal.returns-then-is_met
returns-then-is_met c = let a = c.args in
    c.set_ready-then-is_met.ensures
    ∙ sym (is-met (slots_from a.slots.now 0 a.n) a.reach.now a.f a.k a.a c.rank_near-p.result c.is_at-named.result c.rank_near-p.ensures c.is_at-named.ensures
    (not-false a.a.there c.if-not-a.false) c.if-k-f.false (sym c.is_met.ensures ∙ c.if-is_met.true))

pub returns : goal.returns
returns c = let a = c.args in
    c.wait_for.ensures
    ∙ sym (not-met (slots_from a.slots.now 0 a.n) a.reach.now a.f a.k a.a c.rank_near-p.result c.is_at-named.result c.rank_near-p.ensures c.is_at-named.ensures
    (not-false a.a.there c.if-not-a.false) c.if-k-f.false (sym c.is_met.ensures ∙ c.if-is_met.false))
