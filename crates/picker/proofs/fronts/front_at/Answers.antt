-- `picker::front_at` meets its contract: the six words of front i, if it is there.
use mathlib.Core.Path.{sym, ◌∙◌}
use native.Mathlib.Omega.{arith}
use Rattle.picker.proofs.FrontLaws.{front-there, front-nowhere}
use Rattle.picker.proofs.fronts.front_at.Goals as goal

pub returns-then-fronts-i : goal.returns-then-fronts-i
returns-then-fronts-i c = let a = c.args in
    c.none.ensures ∙ sym (front-nowhere a.fronts.now a.i c.if-fronts-i.true)

pub returns : goal.returns
returns c = let a = c.args in
    sym (front-there a.fronts.now a.i (omega arith))
