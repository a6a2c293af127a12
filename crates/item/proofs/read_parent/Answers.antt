-- `item::read_parent` meets its contract: a parent info, then what it announces.
use mathlib.Core.Path.{sym, ap, ◌∙◌}
use Rattle.grammar.specs.Grammar.{parent_info}
use Rattle.grammar.specs.Blocks.{parent_after, parent}
use Rattle.cells.specs.Cells.{given}
use Rattle.item.specs.Row.{row_in, onto}
use Rattle.held.proofs.Laws.{number-then, number-stopped}
use Rattle.item.proofs.read_parent.Goals as goal

pub returns-in_err-v : goal.returns-in_err-v
unfolding parent onto
returns-in_err-v c = rw c.from_residual.ensures (let b = c in
    let form = b.args.form in
    let u = b.args.update.now in
    let w = b.args.w.now in
    let r = b.args.r.now in
    let v = c.read_parent_info.new.w in
    let k = c.read_parent_info.ensures in
    (k.0, b.requires.1, number-stopped form u w v parent_info _ (ap (given v) (sym c.in_err-v.was) ∙ k.1)))

pub returns : goal.returns
unfolding parent
returns c = let b = c in
    let form = b.args.form in
    let u = b.args.update.now in
    let w = b.args.w.now in
    let r = b.args.r.now in
    let v = c.read_parent_info.new.w in
    let k = c.read_parent_info.ensures in
    let p = c.read_parent_after.ensures in
    let x = c.in_ok-v.v in
    (p.0, p.1, p.2 ∙ number-then form u w v parent_info (λ a. parent_after (row_in r) a.0) x (ap (given v) (sym c.in_ok-v.was) ∙ k.1))
