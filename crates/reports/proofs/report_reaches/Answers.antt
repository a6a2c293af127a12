-- `reports::report_reaches` meets its contract: what is still to be stored leaves what all the words would leave.
use Prim.Native.Nat.{suc, ◌+◌, ◌*◌}
use mathlib.Core.Path.{◌≡◌, ◌∙◌}
use native.Mathlib.Omega.{arith}
use Rattle.reports.proofs.Words.{reach-words}
use Rattle.reports.proofs.Turns.{reaches, turn, ended-place, ended-words}
use Rattle.reports.proofs.report_reaches.Goals as goal

pub loop-i-preserved : goal.loop-i-preserved
loop-i-preserved c = let a = c.args in
    let next = turn (reaches a.reach.now) c.loop-i.invariant c.loop-i-test.true in
    let e : 2 * (c.loop-i.i + 1) ≡ 2 * c.loop-i.i + 2 = omega arith in
    let behind : 2 * c.loop-i.i + 1 ≡ suc (2 * c.loop-i.i) = omega arith in
    let words = reach-words a.slots.now a.reach.now c.loop-i.i in
    rw (c.put_word-in-loop-i.ensures, c.put_word.ensures, c.reach_at-clock.ensures, e, behind) (rw words at next)

pub returns : goal.returns
returns c = let a = c.args in
    let e : c.loop-i.i ≡ a.n = omega arith in
    let place : 2 * a.n ≡ 2 * c.loop-i.i = omega arith in
    (place ∙ ended-place (reaches a.reach.now) c.loop-i.invariant e, c.clear_after.ensures ∙ rw place (ended-words (reaches a.reach.now) c.loop-i.invariant e))
