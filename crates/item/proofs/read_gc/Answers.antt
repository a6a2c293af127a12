-- `item::read_gc` meets its contract: what is read is the length.
use mathlib.Core.Path.{sym, ap, ◌∙◌}
use native.Mathlib.Omega.{arith}
use Rattle.block.specs.Rows.{plain}
use Rattle.block.specs.Kinds.{GC}
use Rattle.grammar.specs.Grammar.{len, done}
use Rattle.grammar.specs.Blocks.{bare}
use Rattle.cells.specs.Cells.{given}
use Rattle.item.specs.Row.{row_in, onto}
use Rattle.item.proofs.Rows.{bare-put}
use Rattle.held.proofs.Laws.{row_done, number-then, number-stopped}
use lib.ListN.{length-set}
use Rattle.item.proofs.read_gc.Goals as goal

pub returns-in_err-v : goal.returns-in_err-v
unfolding bare onto
returns-in_err-v c = rw c.from_residual.ensures (let b = c in
    let form = b.args.form in
    let u = b.args.update.now in
    let w = b.args.w.now in
    let r = b.args.r.now in
    let v = c.read_len.new.w in
    let k = c.read_len.ensures in
    (k.0, b.requires.1, number-stopped form u w v len _ (ap (given v) (sym c.in_err-v.was) ∙ k.1)))

pub bounds-r-3 : goal.bounds-r-3
bounds-r-3 c = simp length-set (omega arith)

pub returns : goal.returns
unfolding bare
returns c = let b = c in
    let form = b.args.form in
    let u = b.args.update.now in
    let w = b.args.w.now in
    let r = b.args.r.now in
    let v = c.read_len.new.w in
    let k = c.read_len.ensures in
    let x = c.in_ok-v.v in
    let p = bare-put r b.requires.1 x GC (omega arith) b.requires.2 in (
      k.0,
      p.0,
      row_done form u v _ _ p.1
          ∙ number-then form u w v len (λ a. done (plain (row_in r).client (row_in r).clock a.0 GC)) x (ap (given v) (sym c.in_ok-v.was) ∙ k.1),
    )
