-- `keyed::read_value` meets its contract: one value, or a text in line.
use mathlib.Core.Path.{◌∙◌}
use Rattle.cells.specs.Cells.{state_in}
use Rattle.keyed.proofs.Laws.{value_line, value-columned}
use Rattle.keyed.proofs.read_value.Goals as goal

pub returns-then-form-ne1 : goal.returns-then-form-ne1
returns-then-form-ne1 c = let b = c in
    let k = c.read_values.ensures in
    (k.0, k.1, k.2 ∙ value-columned b.args.form b.args.update.now (state_in b.args.w.now) c.if-form-ne1.true b.args.blame)

pub returns : goal.returns
returns c = let b = c in
    let k = c.read_word.ensures in
    (k.0, k.1, k.2 ∙ value_line b.args.form b.args.update.now b.args.w.now c.if-form-ne1.false b.args.blame)
