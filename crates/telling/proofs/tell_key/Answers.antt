-- `telling::tell_key` meets its contract: a key drawn, and its lines.
use mathlib.Core.Path.{sym, ap, ◌∙◌}
use lib.ListN.{get_or}
use Rattle.cells.specs.Cells.{at_in, key_count, cell, part_in, state_in}
use Rattle.fields.specs.Fields.{part_given}
use Rattle.origins.specs.Origins.{stored_line, key_lines}
use Rattle.telling.proofs.Laws.{above-none, beside-size, key-refused, key-in-line, key-in-column}
use Rattle.telling.proofs.tell_key.Goals as goal

pub returns-in_err-read_key : goal.returns-in_err-read_key
returns-in_err-read_key c = rw c.from_residual.ensures (let b = c in
    let a = b.args in
    let v = c.read_key.new.w in
    let q = c.read_key.new.r in
    let r = key-refused a.form a.update.now a.code a.w.now v _ a.i q (ap (part_given 0 v q) (sym c.in_err-read_key.was) ∙ c.read_key.ensures.2) in
    ((c.read_key.ensures.0, above-none a.i a.sheet.now, r), beside-size 0 a.part.now q c.read_key.ensures.1 ∙ b.requires.1))

pub returns-then-form-eq1 : goal.returns-then-form-eq1
unfolding at_in part_in
returns-then-form-eq1 c = let b = c in
    let a = b.args in
    let v = c.read_key.new.w in
    let q = c.read_key.new.r in
    let p = c.put_line.ensures in
    let h = ap (part_given 0 v q) (sym c.in_ok-read_key.was) ∙ c.read_key.ensures.2 in
    let l = p.1 ∙ c.stored_line-l.ensures ∙ ap (λ y. stored_line a.code (get_or q 1 0) y (at_in a.w.now)) c.part_in-p.ensures in
    ((c.read_key.ensures.0, p.0, key-in-line a.form a.update.now a.code a.w.now v _ a.i q h c.if-form-eq1.true l), beside-size 0 a.part.now q c.read_key.ensures.1 ∙ b.requires.1)

pub returns : goal.returns
unfolding key_count cell
returns c = let b = c in
    let a = b.args in
    let v = c.read_key.new.w in
    let q = c.read_key.new.r in
    let p = c.put_key-n.ensures in
    let h = ap (part_given 0 v q) (sym c.in_ok-read_key.was) ∙ c.read_key.ensures.2 in
    let l = p.3 ∙ ap (λ y. key_lines a.update.now a.code y (cell a.w.now 0 2) (key_count a.w.now) (state_in v)) c.part_in-p.ensures in
    ((c.read_key.ensures.0, p.0, key-in-column a.form a.update.now a.code a.w.now v _ a.i q h c.if-form-eq1.false _ p.1 p.2 l), beside-size 0 a.part.now q c.read_key.ensures.1 ∙ b.requires.1)
