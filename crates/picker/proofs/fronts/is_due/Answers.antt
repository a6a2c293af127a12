-- `picker::is_due` meets its contract: no front, one that waits for a slot without a reach, or one that waits for a reach.
use Prim.Native.Nat.{◌+◌, ◌*◌}
use mathlib.Core.Path.{sym, ◌∙◌}
use native.Mathlib.Omega.{arith}
use lib.ListN.{get_or, get_or-eq_default}
use Rattle.picker.proofs.FrontLaws.{leb-zero, due-there, due-nowhere}
use Rattle.picker.proofs.fronts.is_due.Goals as goal

pub returns-then-fronts-i : goal.returns-then-fronts-i
returns-then-fronts-i c = let a = c.args in
    sym (due-nowhere a.fronts.now a.reach.now a.i c.if-fronts-i.true)

pub returns-then-reach-slot : goal.returns-then-reach-slot
returns-then-reach-slot c = let a = c.args in
    let slot = get_or a.fronts.now (6 * a.i + 2) 0 in
    let need = get_or a.fronts.now (6 * a.i + 3) 0 in
    sym (due-there a.fronts.now a.reach.now a.i (omega arith)
    ∙ rw (get_or-eq_default a.reach.now 0 {n = slot} c.if-reach-slot.true) (leb-zero need))

pub returns : goal.returns
returns c = let a = c.args in
    sym (due-there a.fronts.now a.reach.now a.i (omega arith))
