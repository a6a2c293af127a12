-- `count_clients` meets its contract: those counted, and those left to count, are all.
use mathlib.Core.Path.{◌≡◌, sym, ◌∙◌}
use native.Mathlib.Omega.{arith}
use Rattle.records.proofs.DeleteRows.{firsts, clients-firsts, firsts-begin, firsts-turn, firsts-end}
use Rattle.records.proofs.delete_set.count_clients.Goals as goal
use Rattle.records.proofs.delete_set.count_clients.Goals.{then-is_first, else-is_first}

pub loop-i-init : goal.loop-i-init
loop-i-init c = (firsts-begin c.args.ranges.now c.args.n, omega arith)

pub loop-i-preserved : goal.loop-i-preserved
loop-i-preserved c = let t = firsts-turn c.args.ranges.now c.args.n c.loop-i.i (omega arith) in
    elim c.if-is_first.branch [
      | then-is_first w ↦ let f = rw (sym c.is_first.ensures ∙ w.if-is_first.true) at t in (omega (arith, w.count-is, f), omega (arith, w.count-is))
      | else-is_first w ↦ let f = rw (sym c.is_first.ensures ∙ w.if-is_first.false) at t in (omega (arith, w.count-is, f), omega (arith, w.count-is))
    ]

pub returns : goal.returns
returns c = let a = c.args in
    let all : c.loop-i.count ≡ firsts a.ranges.now 0 a.n = omega (arith, firsts-end a.ranges.now a.n c.loop-i.i (omega arith)) in
    all ∙ sym (clients-firsts a.ranges.now a.n)
