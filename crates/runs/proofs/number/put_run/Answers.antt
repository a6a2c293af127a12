-- `number::put_run` meets its contract: the run as a signed number and its count.
use native.Mathlib.Omega.{arith}
use mathlib.Core.Path.{ap}
use lib.ListN.{length}
use Rattle.runs.proofs.Writing.{number-run}
use Rattle.runs.proofs.number.put_run.Goals as goal

pub put_counted-requires : goal.put_counted-requires
put_counted-requires c = let a = c.args in omega (arith, ap length (number-run a.v a.n))

pub returns : goal.returns
returns c = let a = c.args in rw (number-run a.v a.n) c.put_counted.ensures
