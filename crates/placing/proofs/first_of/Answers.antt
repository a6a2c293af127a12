-- `placing::first_of` meets its contract: the slot at the rank, if there is one.
use mathlib.Core.Path.{sym}
use Rattle.placing.proofs.Places.{first_out, first-in}
use Rattle.placing.proofs.first_of.Goals as goal

pub returns-then-n-p : goal.returns-then-n-p
returns-then-n-p c = let a = c.args in sym (first_out a.slots.now a.n a.client c.rank_near-p.result c.rank_near-p.ensures c.if-n-p.true)

pub returns : goal.returns
returns c = let a = c.args in sym (first-in a.slots.now a.n a.client c.rank_near-p.result c.rank_near-p.ensures c.if-n-p.false)
