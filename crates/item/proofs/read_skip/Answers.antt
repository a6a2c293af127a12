-- `item::read_skip` meets its contract: what is read is the length.
use mathlib.Core.Path.{sym, ap, ◌∙◌}
use native.Mathlib.Omega.{arith}
use Rattle.block.specs.Rows.{plain}
use Rattle.block.specs.Kinds.{SKIP}
use Rattle.grammar.specs.Grammar.{up_to, done}
use Rattle.grammar.specs.Blocks.{bare}
use Rattle.cells.specs.Cells.{given, state_in}
use Rattle.item.specs.Row.{row_in, onto}
use Rattle.item.proofs.Rows.{bare-put}
use Rattle.held.proofs.Laws.{row_done, number-then, number-stopped}
use Rattle.numbers.specs.Limits.{max_clock}
use Rattle.decoder.proofs.Laws.{fields-up-to}
use lib.ListN.{length-set}
use Rattle.item.proofs.read_skip.Goals as goal

pub returns-in_err-v : goal.returns-in_err-v
unfolding bare onto state_in
returns-in_err-v c = rw c.from_residual.ensures (let b = c in
    let form = b.args.form in
    let u = b.args.update.now in
    let w = b.args.w.now in
    let r = b.args.r.now in
    let v = c.read_var.new.w in
    let k = c.read_var.ensures in
    (k.0, b.requires.1, number-stopped form u w v (up_to max_clock) _ (ap (given v) (sym c.in_err-v.was) ∙ k.1 ∙ sym (fields-up-to form u max_clock (state_in w)))))

pub bounds-r-3 : goal.bounds-r-3
bounds-r-3 c = simp length-set (omega arith)

pub returns : goal.returns
unfolding bare state_in
returns c = let b = c in
    let form = b.args.form in
    let u = b.args.update.now in
    let w = b.args.w.now in
    let r = b.args.r.now in
    let v = c.read_var.new.w in
    let k = c.read_var.ensures in
    let x = c.in_ok-v.v in
    let p = bare-put r b.requires.1 x SKIP (omega arith) b.requires.2 in (
      k.0,
      p.0,
      row_done form u v _ _ p.1
          ∙ number-then form u w v (up_to max_clock) (λ a. done (plain (row_in r).client (row_in r).clock a.0 SKIP)) x (ap (given v) (sym c.in_ok-v.was) ∙ k.1 ∙ sym (fields-up-to form u max_clock (state_in w))),
    )
