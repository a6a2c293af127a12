-- `keyed::read_key` meets its contract: a text in line, or by its number.
use mathlib.Core.Path.{◌∙◌}
use Rattle.cells.specs.Cells.{state_in}
use Rattle.keyed.proofs.Laws.{key-line, key-columned}
use Rattle.keyed.proofs.read_key.Goals as goal

pub returns-then-form-eq1 : goal.returns-then-form-eq1
returns-then-form-eq1 c = let b = c in
    let k = c.read_word.ensures in
    (k.0, k.1, k.2 ∙ key-line b.args.form b.args.update.now b.args.w.now c.if-form-eq1.true)

pub returns : goal.returns
returns c = let b = c in
    let k = c.draw_key.ensures in
    (k.0, k.1, k.2 ∙ key-columned b.args.form b.args.update.now (state_in b.args.w.now) c.if-form-eq1.false)
