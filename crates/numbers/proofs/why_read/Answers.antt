-- `numbers::why_read` meets its contract, by the cases of the answer.
use mathlib.Core.Path.{sym, ap}
use Rattle.numbers.specs.NumberInner.{why_read}
use Rattle.numbers.proofs.why_read.Goals as goal

pub returns-in-Number : goal.returns-in-Number
returns-in-Number c = ap why_read (sym c.in-Number.is)
