-- `picker::rule28::at` meets its contract: three stages, and none after them.
use mathlib.Core.Path.{sym, ◌∙◌}
use native.Mathlib.Omega.{arith}
use Rattle.picker.specs.Rule28.{stages28}
use Rattle.picker.proofs.StageLaws.{no-fourth}
use Rattle.picker.proofs.rule28.at.Goals as goal

pub returns-in-0 : goal.returns-in-0
unfolding stages28
returns-in-0 c = rw c.in-0.is c.other.ensures

pub returns-in-1 : goal.returns-in-1
unfolding stages28
returns-in-1 c = rw c.in-1.is c.other-in-1.ensures

pub returns-in-2 : goal.returns-in-2
unfolding stages28
returns-in-2 c = rw c.in-2.is c.other-in-2.ensures

pub returns-in_default : goal.returns-in_default
returns-in_default c =
    let a = c.args in
    c.none.ensures ∙ sym (no-fourth a.b a.k (omega arith))
