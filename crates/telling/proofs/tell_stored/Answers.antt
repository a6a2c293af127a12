-- `telling::tell_stored` meets its contract: bytes drawn, and their line.
use mathlib.Core.Path.{sym, ap, ◌∙◌}
use lib.ListN.{get_or}
use Rattle.cells.specs.Cells.{at_in, part_in}
use Rattle.fields.specs.Fields.{part_given}
use Rattle.origins.specs.Origins.{stored_line}
use Rattle.telling.proofs.Laws.{above-none, beside-size, stored_refused, stored-tells}
use Rattle.telling.proofs.tell_stored.Goals as goal

pub returns-in_err-read_stored : goal.returns-in_err-read_stored
returns-in_err-read_stored c = rw c.from_residual.ensures (let b = c in
    let a = b.args in
    let v = c.read_stored.new.w in
    let q = c.read_stored.new.part in
    let r = stored_refused a.form a.update.now a.code a.w.now v _ a.i q a.x (ap (part_given 0 v q) (sym c.in_err-read_stored.was) ∙ c.read_stored.ensures.2) in
    ((c.read_stored.ensures.0, above-none a.i a.sheet.now, r), beside-size 0 a.part.now q c.read_stored.ensures.1 ∙ b.requires.1))

pub returns : goal.returns
unfolding at_in part_in
returns c = let b = c in
    let a = b.args in
    let v = c.read_stored.new.w in
    let q = c.read_stored.new.part in
    let p = c.put_line.ensures in
    let h = ap (part_given 0 v q) (sym c.in_ok-read_stored.was) ∙ c.read_stored.ensures.2 in
    let l = p.1 ∙ c.stored_line-l.ensures ∙ ap (λ y. stored_line a.code (get_or q 1 0) y (at_in a.w.now)) c.part_in-p.ensures in
    ((c.read_stored.ensures.0, p.0, stored-tells a.form a.update.now a.code a.w.now v _ a.i q a.x h l), beside-size 0 a.part.now q c.read_stored.ensures.1 ∙ b.requires.1)
