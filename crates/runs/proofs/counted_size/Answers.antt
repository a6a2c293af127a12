-- `counted_size` meets its contract: the head, and the count where there is one.
use native.Mathlib.Omega.{arith}
use mathlib.Core.Path.{sym, ap, ◌∙◌}
use lib.ListN.{length}
use Rattle.runs.proofs.Writing.{run-one, run-many-length}
use Rattle.runs.proofs.counted_size.Goals as goal

pub returns-then-n-eq0 : goal.returns-then-n-eq0
returns-then-n-eq0 c = (λ m. c.size_signed-head.ensures.0 m ∙ ap length (sym (run-one m c.args.x _ c.if-n-eq0.true)), omega (arith, c.size_signed-head.ensures.1))

pub returns : goal.returns
returns c = (λ m. omega (arith, c.size_signed-head.ensures.0 m, c.size_unsigned.ensures.0, run-many-length m c.args.x c.args.n c.if-n-eq0.false), omega (arith, c.size_signed-head.ensures.1, c.size_unsigned.ensures.1))
