-- `columns::number::why` meets its contract: each arm is the clause of `whyNumber` for its variant.
use mathlib.Core.Path.{sym, ap}
use Rattle.columns.specs.NumberInner.{why_number}
use Rattle.columns.proofs.number.why.Goals as goal

pub returns-in-Next : goal.returns-in-Next
returns-in-Next c = ap why_number (sym c.in-Next.is)
