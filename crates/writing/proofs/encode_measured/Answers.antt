-- `encode_measured` meets its contract: what was planned is measured; then it is why it is not written, or it is written.
use Rattle.std.proofs.Common.{ap, ◌∙◌, sym, not}
use borrow.Author.Tests.{ne_eqb, eq-eqb}
use Rattle.numbers.specs.OutputInner.{refusal}
use Rattle.ranges.specs.TableInner.{rows_from}
use Rattle.writing.specs.Writing.{job}
use Rattle.writing.proofs.Exits.{told-why, told-planned}
use Rattle.writing.proofs.encode_measured.Goals as goal

pub returns-then-number-ne0 : goal.returns-then-number-ne0
returns-then-number-ne0 c = let a = c.args in
    let t = told-why (job a.update.now a.rows.now a.plan.now a.planned.sections (rows_from a.ranges.now 0 a.n)) a.from a.form a.planned a.out.now
    c.measure-measured.ensures.0 (ap not (ne_eqb _ _ (λ e. c.if-number-ne0.true (c.why_not-number.ensures ∙ e)))) in
    (c.refuse.ensures.0 ∙ ap refusal c.why_not-number.ensures ∙ t.0, c.refuse.ensures.1 ∙ t.1)

pub returns : goal.returns
returns c = let a = c.args in
    told-planned (job a.update.now a.rows.now a.plan.now a.planned.sections (rows_from a.ranges.now 0 a.n)) a.from a.form a.planned a.out.now
    c.measure-measured.ensures.0 (ap not (eq-eqb _ _ (sym c.why_not-number.ensures ∙ c.if-number-ne0.false))) c.encode_planned.ensures
