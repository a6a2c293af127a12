-- `numbers::why_signed` meets its contract, by the cases of the answer.
use mathlib.Core.Path.{sym, ap}
use Rattle.numbers.specs.NumberInner.{why_signed}
use Rattle.numbers.proofs.why_signed.Goals as goal

pub returns-in-Value : goal.returns-in-Value
returns-in-Value c = ap why_signed (sym c.in-Value.is)
