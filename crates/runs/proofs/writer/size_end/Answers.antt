-- `writer::size_end` meets its contract: nothing, or the last run.
use native.Mathlib.Omega.{arith}
use mathlib.Core.Path.{sym, ap, ◌∙◌}
use lib.ListN.{length}
use Rattle.runs.proofs.Writing.{finished-none, finished-some}
use Rattle.runs.proofs.writer.size_end.Goals as goal

pub returns-then-w-eq0 : goal.returns-then-w-eq0
returns-then-w-eq0 c = (sym (ap length (finished-none c.args.w c.if-w-eq0.true)), omega arith)

pub returns : goal.returns
returns c = (c.last_size.ensures.0 ∙ sym (ap length (finished-some c.args.w c.if-w-eq0.false)), c.last_size.ensures.1)
