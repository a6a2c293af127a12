-- `columns::byte::why` meets its contract: each arm is the clause of `whyByte` for its variant.
use mathlib.Core.Path.{sym, ap}
use Rattle.columns.specs.ByteInner.{why_byte}
use Rattle.columns.proofs.byte.why.Goals as goal

pub returns-in-Next : goal.returns-in-Next
returns-in-Next c = ap why_byte (sym c.in-Next.is)
