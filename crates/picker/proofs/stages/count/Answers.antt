-- `picker::stages::count` meets its contract: rule 13, or rule 28.
use mathlib.Core.Path.{sym}
use native.Mathlib.Omega.{arith}
use Rattle.picker.proofs.StageLaws.{count-13, count-28}
use Rattle.picker.proofs.stages.count.Goals as goal

pub returns-then-rule-eq13 : goal.returns-then-rule-eq13
returns-then-rule-eq13 c = (sym (count-13 c.args.rule c.if-rule-eq13.true), omega arith)

pub returns : goal.returns
returns c = (sym (count-28 c.args.rule c.if-rule-eq13.false), omega arith)
