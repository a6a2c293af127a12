-- `leads::open` meets its contract: the lanes that are noted, and those that are still to begin, are all lanes at their beginnings.
use mathlib.Core.Path.{refl}
use native.Mathlib.Omega.{arith}
use borrow.Author.Rules.{rules}
use Rattle.passes.proofs.Places.{opens, opens-on, opened, opened-line}
use Rattle.passes.proofs.leads.open.Goals as goal

pub returns-then-form-eq1 : goal.returns-then-form-eq1
returns-then-form-eq1 c = let s = c in opened-line s.args.out.now s.args.sizes.now c.if-form-eq1.true s.requires.1

pub loop-k-init : goal.loop-k-init
loop-k-init c = let s = c in (opens s.args.out.now s.args.sizes.now s.args.lanes.now s.requires.1, refl, refl)

pub put_lead-lead-requires : goal.put_lead-lead-requires
put_lead-lead-requires c = let p7 = c in (p7.requires.0, omega arith)

pub bounds-lanes-k : goal.bounds-lanes-k
bounds-lanes-k c = omega (arith, c.loop-k.invariant.0.size)

pub bounds-sizes-k : goal.bounds-sizes-k
bounds-sizes-k c = omega (arith, c.requires.0)

pub loop-k-preserved : goal.loop-k-preserved
loop-k-preserved c = let p4 = c in
    let p7 = c in
    let s = c in
    (rw c.on_to-at.ensures (opens-on s.args.out.now s.args.sizes.now p7.loop-k.invariant.0 (omega arith) p4.put_lead-lead.ensures), search rules, search rules)

pub returns : goal.returns
returns c = let p1 = c in
    let p2 = c in
    let s = c in
    opened s.args.out.now s.args.sizes.now p2.if-form-eq1.false p1.loop-k.invariant.0 (omega arith)
