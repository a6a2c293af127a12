-- `update::read_count` meets its contract: the section count, and the spot before the first section.
use mathlib.Core.Path.{sym, ap, ◌∙◌}
use Rattle.numbers.specs.Limits.{max_clients}
use Rattle.cells.specs.Cells.{given}
use Rattle.update.proofs.Laws.{in-line, within, uncounted, count}
use Rattle.update.proofs.read_count.Goals as goal

pub returns-in_default : goal.returns-in_default
returns-in_default c = let a = c.args in
    let v = c.read_var.new.w in
    let e = in-line a.form a.update.now max_clients a.w.now v c.read_var.result c.read_var.ensures.1 in
    rw c.why.ensures (uncounted a.form a.update.now a.w.now v c.read_var.ensures.0 (ap (given v) (sym c.in_default.is) ∙ e))

pub returns : goal.returns
returns c = let a = c.args in
    let v = c.read_var.new.w in
    let n = ap (given v) (sym c.in-Some.is) ∙ c.read_var.ensures.1 in
    count a.form a.update.now a.w.now v c.read_var.ensures.0 _ (within max_clients a.update.now _ _ v _ n) (in-line a.form a.update.now max_clients a.w.now v _ n)
