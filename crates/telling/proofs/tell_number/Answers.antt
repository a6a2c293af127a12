-- `telling::tell_number` meets its contract: a number drawn, and its line.
use mathlib.Core.Path.{sym, ap, ◌∙◌}
use Rattle.cells.specs.Cells.{at_in, place_in, state_in, given}
use Rattle.origins.specs.Numerals.{numeral}
use Rattle.origins.specs.Origins.{number_line}
use Rattle.telling.proofs.Laws.{above-none, number-refused, number-in-line, number-in-column}
use Rattle.telling.proofs.tell_number.Goals as goal

pub returns-in_err-v : goal.returns-in_err-v
returns-in_err-v c = rw c.from_residual.ensures (let a = c.args in
    let v = c.draw.new.w in
    (c.draw.ensures.0, above-none a.i a.sheet.now, number-refused a.form a.update.now a.code a.w.now v _ a.i (numeral a.n) (ap (given v) (sym c.in_err-v.was) ∙ c.draw.ensures.1)))

pub returns-then-form-eq1 : goal.returns-then-form-eq1
unfolding at_in place_in
returns-then-form-eq1 c = let a = c.args in
    let v = c.draw.new.w in
    let p = c.put_line.ensures in
    let h = ap (given v) (sym c.in_ok-v.was) ∙ c.draw.ensures.1 in
    (c.draw.ensures.0, p.0, number-in-line a.form a.update.now a.code a.w.now v _ a.i (numeral a.n) c.in_ok-v.v h c.if-form-eq1.true (p.1 ∙ c.plain_line-l.ensures))

pub returns : goal.returns
unfolding at_in place_in
returns c = let a = c.args in
    let v = c.draw.new.w in
    let p = c.put_line-2.ensures in
    let h = ap (given v) (sym c.in_ok-v.was) ∙ c.draw.ensures.1 in
    let l = p.1 ∙ c.number_line-l.ensures ∙ ap (λ base. number_line a.update.now a.code (numeral a.n) c.in_ok-v.v (at_in a.w.now) base (state_in v)) c.base_of-base.ensures in
    (c.draw.ensures.0, p.0, number-in-column a.form a.update.now a.code a.w.now v _ a.i (numeral a.n) c.in_ok-v.v h c.if-form-eq1.false l)
