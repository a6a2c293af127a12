-- `keyed::read_type` meets its contract: in line, or from its column.
use mathlib.Core.Path.{◌∙◌}
use native.Mathlib.Omega.{arith}
use Rattle.keyed.proofs.Types.{type-line, type-drawn}
use Rattle.keyed.proofs.read_type.Goals as goal

pub returns-then-form-eq1 : goal.returns-then-form-eq1
returns-then-form-eq1 c = let b = c in
    let k = c.read_var.ensures in
    (k.0, k.1 ∙ type-line b.args.update.now (λ j. omega (arith, c.type_inv.update j)) b.args.form b.args.w.now c.if-form-eq1.true)

pub returns : goal.returns
returns c = let b = c in
    let k = c.draw_number.ensures in
    (k.0, type-drawn b.args.form b.args.update.now b.args.w.now c.draw_number.new.w c.draw_number.result c.if-form-eq1.false k)
