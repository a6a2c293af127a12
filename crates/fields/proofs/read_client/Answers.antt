-- `fields::read_client` meets its contract: in line, or from its column.
use mathlib.Core.Path.{◌∙◌}
use Rattle.grammar.specs.Grammar as grammar
use Rattle.decoder.specs.Line.{line, number_by}
use Rattle.fields.proofs.Laws.{in-line, client-drawn}
use Rattle.fields.proofs.read_client.Goals as goal

pub returns-then-form-eq1 : goal.returns-then-form-eq1
unfolding line number_by
returns-then-form-eq1 c = let b = c in
    let u = b.args.update.now in
    let w = b.args.w.now in
    let k = c.read_var.ensures in
    (k.0, k.1 ∙ in-line b.args.form u w c.if-form-eq1.true (grammar.number grammar.client))

pub returns : goal.returns
returns c = let b = c in
    let u = b.args.update.now in
    let w = b.args.w.now in
    let k = c.draw_number.ensures in
    (k.0, client-drawn b.args.form u w c.draw_number.new.w c.if-form-eq1.false c.draw_number.result k)
