-- `vector::put_words` meets its contract: the words before 2 * i are those of the entries before `i`.
use mathlib.Core.Path.{◌≡◌, refl, ◌∙◌}
use Prim.Native.Nat.{◌*◌, ◌+◌}
use native.Mathlib.Omega.{arith}
use lib.ListN.{length-set}
use Rattle.numbers.proofs.Output.{padded-some}
use Rattle.vector.proofs.Laws.{joined-none, joined-on}
use Rattle.vector.proofs.put_words.Goals as goal

pub loop-i-init : goal.loop-i-init
loop-i-init c = (omega arith, refl, joined-none _)

pub bounds-out-i-in-loop-i : goal.bounds-out-i-in-loop-i
bounds-out-i-in-loop-i c = simp length-set (omega arith)

pub loop-i-preserved : goal.loop-i-preserved
loop-i-preserved c = let a = c.args in let i = c.loop-i.i in let on : 2 * (i + 1) ≡ 2 * i + 2 = omega arith in
    (omega arith, simp length-set c.loop-i.invariant.1, rw on (joined-on c.loop-i.out a.clients.now a.clocks.now (2 * i) i (omega arith) (omega arith) (omega arith) c.loop-i.invariant.2))

pub returns : goal.returns
returns c = let a = c.args in let e : c.loop-i.i ≡ a.n = omega (arith, c.loop-i-test.false, c.loop-i.invariant.0) in
    c.clear.ensures ∙ padded-some c.loop-i.out (2 * a.n) (omega (arith, c.requires.0, c.loop-i.invariant.1)) ∙ rw (c.loop-i.invariant.1, ← e, c.loop-i.invariant.2)
