-- `picker::first_due` meets its contract: the first due front from `i` on is the first of all.
use mathlib.Core.Path.{sym, ◌∙◌}
use native.Mathlib.Omega.{arith}
use Rattle.picker.proofs.FrontLaws.{due-found, due-later, due-ended}
use Rattle.picker.proofs.fronts.first_due.Goals as goal

pub returns-then-is_due : goal.returns-then-is_due
returns-then-is_due c = let a = c.args in
    (sym (due-found a.fronts.now a.reach.now a.n c.loop-i.i c.loop-i-test.true (sym c.is_due.ensures ∙ c.if-is_due.true)) ∙ c.loop-i.invariant, omega arith)

pub loop-i-preserved : goal.loop-i-preserved
loop-i-preserved c = let a = c.args in
    sym (due-later a.fronts.now a.reach.now a.n c.loop-i.i c.loop-i-test.true (sym c.is_due.ensures ∙ c.if-is_due.false)) ∙ c.loop-i.invariant

pub returns : goal.returns
returns c = let a = c.args in
    (sym (due-ended a.fronts.now a.reach.now a.n c.loop-i.i (omega arith)) ∙ c.loop-i.invariant, omega arith)
