-- `cells::refuse` meets its contract: two words behind the columns change.
use Rattle.cells.proofs.Words.{small-refused, elsewhere-refused, why-refused}
use mathlib.Core.Path.{refl}
use native.Mathlib.Omega.{arith}
use lib.ListN.{length-set}
use Rattle.cells.proofs.refuse.Goals as goal

pub bounds-w-66 : goal.bounds-w-66
bounds-w-66 c = simp length-set (omega arith)

pub returns : goal.returns
returns c = let w = c.args.w.now in
    (refl, small-refused w c.requires c.args.number c.args.place (omega arith), elsewhere-refused w c.requires c.args.number c.args.place, why-refused w c.requires c.args.number c.args.place)
