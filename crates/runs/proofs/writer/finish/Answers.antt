-- `writer::finish` meets its contract: nothing, or the last run.
use native.Mathlib.Omega.{arith}
use mathlib.Core.Path.{refl, ap}
use lib.ListN.{length}
use Rattle.runs.proofs.Writing.{finished-none, finished-some}
use Rattle.runs.proofs.writer.finish.Goals as goal

pub returns-then-w-eq0 : goal.returns-then-w-eq0
returns-then-w-eq0 c = let e = finished-none c.args.w c.if-w-eq0.true in rw e (omega arith, refl)

pub put_last-requires : goal.put_last-requires
put_last-requires c = (omega (arith, ap length (finished-some c.args.w c.if-w-eq0.false)), c.requires.1.1)

pub returns : goal.returns
returns c = rw (finished-some c.args.w c.if-w-eq0.false) c.put_last.ensures
