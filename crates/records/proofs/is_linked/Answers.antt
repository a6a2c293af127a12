-- `is_linked` meets its contract.
use mathlib.Core.Path.{◌∙◌}
use Rattle.records.proofs.Writes.{linked-left, linked-right}
use Rattle.records.proofs.is_linked.Goals as goal

pub returns-then-b : goal.returns-then-b
returns-then-b c = c.if-b.true ∙ linked-left c.args.b c.if-b.true

pub returns-else-b : goal.returns-else-b
returns-else-b c = linked-right c.args.b c.if-b.false
