-- `anys::why_skipped` meets its contract, by cases.
use mathlib.Core.Path.{sym, ap}
use Rattle.anys.specs.Steps.{why_skipped}
use Rattle.anys.proofs.why_skipped.Goals as goal

pub returns-in-At : goal.returns-in-At
returns-in-At c = ap why_skipped (sym c.in-At.is)

pub returns-in-Refused : goal.returns-in-Refused
returns-in-Refused c = sym (ap why_skipped c.in-Refused.is)
