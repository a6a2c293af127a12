-- `string::why` meets its contract: each arm is the clause of `whyText` for its variant.
use mathlib.Core.Path.{sym, ap}
use Rattle.string.specs.StringInner.{why_text}
use Rattle.string.proofs.why.Goals as goal

pub returns-in-Next : goal.returns-in-Next
returns-in-Next c = ap why_text (sym c.in-Next.is)
