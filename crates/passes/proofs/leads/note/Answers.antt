-- `leads::note` meets its contract: the first k sizes are the first k lanes' places.
use Rattle.std.proofs.Common.{arith}
use Rattle.passes.proofs.Places.{notes, notes-on, noted, far-there, far-not}
use Rattle.passes.proofs.leads.note.Goals as goal
use Rattle.passes.proofs.leads.note.Goals.{then-lanes-k-ne0, else-lanes-k-ne0}

pub loop-k-init : goal.loop-k-init
loop-k-init c = notes c.args.lanes.now c.requires.0

pub bounds-lanes-k : goal.bounds-lanes-k
bounds-lanes-k c = omega (arith, c.requires.1.size)

pub bounds-sizes-k : goal.bounds-sizes-k
bounds-sizes-k c = omega (arith, c.loop-k.invariant.size)

pub bounds-lanes-k-in-loop-k : goal.bounds-lanes-k-in-loop-k
bounds-lanes-k-in-loop-k c = omega (arith, c.requires.1.size)

pub loop-k-preserved : goal.loop-k-preserved
loop-k-preserved c = let w = c.args.lanes.now in
    notes-on w c.loop-k.far c.loop-k.invariant (omega arith)
    (elim c.if-lanes-k-ne0.branch [
      | then-lanes-k-ne0 t ↦ far-there w c.loop-k.k c.loop-k.far t.if-lanes-k-ne0.true t.far-is
      | else-lanes-k-ne0 t ↦ far-not w c.loop-k.k c.loop-k.far t.if-lanes-k-ne0.false t.far-is
    ])

pub returns : goal.returns
returns c = noted c.args.lanes.now c.loop-k.invariant (omega arith)
