-- `telling::tell_text` meets its contract: a text drawn, and its line.
use mathlib.Core.Path.{sym, ap, ◌∙◌}
use Rattle.cells.specs.Cells.{at_in, state_in}
use Rattle.fields.specs.Fields.{text_given}
use Rattle.origins.specs.Origins.{stored_line, text_line}
use Rattle.telling.proofs.Laws.{above-none, beside-size, text-refused, text_in-line, text_in-column}
use Rattle.telling.proofs.tell_text.Goals as goal

pub returns-in_err-units : goal.returns-in_err-units
returns-in_err-units c = rw c.from_residual.ensures (let b = c in
    let a = b.args in
    let v = c.read_text.new.w in
    let q = c.read_text.new.r in
    let r = text-refused a.form a.update.now a.code a.w.now v _ a.i q (ap (text_given 0 v q) (sym c.in_err-units.was) ∙ c.read_text.ensures.2) in
    ((c.read_text.ensures.0, above-none a.i a.sheet.now, r), beside-size 0 a.part.now q c.read_text.ensures.1 ∙ b.requires.1))

pub returns-then-form-eq1 : goal.returns-then-form-eq1
unfolding at_in
returns-then-form-eq1 c = let b = c in
    let a = b.args in
    let v = c.read_text.new.w in
    let q = c.read_text.new.r in
    let p = c.put_line.ensures in
    let h = ap (text_given 0 v q) (sym c.in_ok-units.was) ∙ c.read_text.ensures.2 in
    let l = p.1 ∙ c.stored_line-l.ensures ∙ ap (λ y. stored_line a.code c.in_ok-units.units y (at_in a.w.now)) c.part_in-p.ensures in
    ((c.read_text.ensures.0, p.0, text_in-line a.form a.update.now a.code a.w.now v _ a.i q c.in_ok-units.units h c.if-form-eq1.true l), beside-size 0 a.part.now q c.read_text.ensures.1 ∙ b.requires.1)

pub returns : goal.returns
returns c = let b = c in
    let a = b.args in
    let v = c.read_text.new.w in
    let q = c.read_text.new.r in
    let p = c.put_line-2.ensures in
    let h = ap (text_given 0 v q) (sym c.in_ok-units.was) ∙ c.read_text.ensures.2 in
    let l = p.1 ∙ c.text_line-l.ensures ∙ ap (λ y. text_line a.update.now a.code y (state_in v)) c.part_in-p.ensures in
    ((c.read_text.ensures.0, p.0, text_in-column a.form a.update.now a.code a.w.now v _ a.i q c.in_ok-units.units h c.if-form-eq1.false l), beside-size 0 a.part.now q c.read_text.ensures.1 ∙ b.requires.1)
