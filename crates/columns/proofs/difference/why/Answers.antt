-- `columns::difference::why` meets its contract: each arm is the clause of `whyDifference` for its variant.
use mathlib.Core.Path.{sym, ap}
use Rattle.columns.specs.DifferenceInner.{why_difference}
use Rattle.columns.proofs.difference.why.Goals as goal

pub returns-in-Next : goal.returns-in-Next
returns-in-Next c = ap why_difference (sym c.in-Next.is)
