-- `bulk::spread` meets its contract: where six were put, the first n stand there too.
use native.Mathlib.Omega.{arith}
use Rattle.bulk.proofs.Spreading.{fill-fewer}
use Rattle.bulk.proofs.spread.Goals as goal

pub returns-then-room-ge6 : goal.returns-then-room-ge6
returns-then-room-ge6 c = let k = c in
    fill-fewer k.args.out.now k.args.at k.args.v _ k.args.n 6 c.if-n-le6.true (omega (arith, k.requires)) c.fill_six.ensures
