-- `picker::stages::at` meets its contract: none of a Skip, those of rule 28, none past the last, or the own client's.
use mathlib.Core.Path.{sym, ◌∙◌}
use native.Mathlib.Omega.{arith}
use Rattle.picker.proofs.StageLaws.{count-28, count_most, skip-none, past-none, stage-28, stage-own}
use Rattle.picker.proofs.stages.at.Goals as goal

pub returns-then-b-eq-SKIP : goal.returns-then-b-eq-SKIP
returns-then-b-eq-SKIP c = let a = c.args in
    c.none.ensures ∙ sym (skip-none a.rule a.b a.k c.if-b-eq-SKIP.true)

pub returns-then-k-lt-STAGES : goal.returns-then-k-lt-STAGES
returns-then-k-lt-STAGES c = let a = c.args in
    c.at.ensures ∙ sym (stage-28 a.rule a.b a.k c.if-b-eq-SKIP.false c.if-k-lt-STAGES.true)

pub returns-then-rule-ne13 : goal.returns-then-rule-ne13
returns-then-rule-ne13 c = let a = c.args in
    c.none-then-rule-ne13.ensures ∙ sym (past-none a.rule a.b a.k (omega (arith, c.if-k-lt-STAGES.false, count-28 a.rule c.if-rule-ne13.true)))

pub returns-then-k-gt-STAGES : goal.returns-then-k-gt-STAGES
returns-then-k-gt-STAGES c = let a = c.args in
    c.none-then-k-gt-STAGES.ensures ∙ sym (past-none a.rule a.b a.k (omega (arith, c.if-k-gt-STAGES.true, count_most a.rule)))

pub returns : goal.returns
returns c = let a = c.args in
    c.own.ensures
    ∙ sym (stage-own a.rule a.b a.k c.if-b-eq-SKIP.false c.if-rule-ne13.false
    (omega (arith, c.if-k-lt-STAGES.false, c.if-k-gt-STAGES.false)))
