-- `fields::read_text` meets its contract: in line, or from its column.
use mathlib.Core.Path.{◌∙◌}
use Rattle.grammar.specs.Grammar as grammar
use Rattle.decoder.specs.Line.{line}
use Rattle.fields.proofs.Laws.{in-line, text-drawn}
use Rattle.fields.proofs.read_text.Goals as goal

pub returns-then-form-eq1 : goal.returns-then-form-eq1
unfolding line
returns-then-form-eq1 c = let b = c in
    let u = b.args.update.now in
    let w = b.args.w.now in
    let k = c.read_string.ensures in
    (k.0, k.1, k.2 ∙ in-line b.args.form u w c.if-form-eq1.true grammar.text)

pub returns : goal.returns
returns c = let b = c in
    let u = b.args.update.now in
    let w = b.args.w.now in
    let k = c.draw_text.ensures in
    (k.0, k.2, text-drawn b.args.form u w c.draw_text.new.w c.if-form-eq1.false c.draw_text.result b.args.k b.args.r.now c.draw_text.new.r k)
