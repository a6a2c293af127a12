-- `held::read_deleted` meets its contract: what is read is the length.
use mathlib.Core.Path.{sym, ap, ◌∙◌}
use native.Mathlib.Omega.{arith}
use Rattle.block.specs.Row.{no_part}
use Rattle.block.specs.Rows.{with_content}
use Rattle.block.specs.Kinds.{DELETED}
use Rattle.grammar.specs.Grammar.{len, done}
use Rattle.grammar.specs.Blocks.{deleted}
use Rattle.cells.specs.Cells.{given}
use Rattle.held.specs.Row.{row_in, onto}
use Rattle.held.proofs.Rows.{deleted-put}
use Rattle.held.proofs.Laws.{row_done, number-then, number-stopped}
use lib.ListN.{length-set}
use Rattle.held.proofs.read_deleted.Goals as goal

pub returns-in_err-v : goal.returns-in_err-v
unfolding deleted onto
returns-in_err-v c = rw c.from_residual.ensures (let b = c in
    let form = b.args.form in
    let u = b.args.update.now in
    let w = b.args.w.now in
    let r = b.args.r.now in
    let v = c.read_len.new.w in
    let k = c.read_len.ensures in
    (k.0, b.requires.1, number-stopped form u w v len _ (ap (given v) (sym c.in_err-v.was) ∙ k.1)))

pub bounds-r : goal.bounds-r
bounds-r c = simp length-set (omega arith)

pub bounds-r-2 : goal.bounds-r-2
bounds-r-2 c = simp length-set (omega arith)

pub bounds-r-3 : goal.bounds-r-3
bounds-r-3 c = simp length-set (omega arith)

pub returns : goal.returns
unfolding deleted
returns c = let b = c in
    let form = b.args.form in
    let u = b.args.update.now in
    let w = b.args.w.now in
    let r = b.args.r.now in
    let v = c.read_len.new.w in
    let k = c.read_len.ensures in
    let x = c.in_ok-v.v in
    let p = deleted-put r b.requires.1 x DELETED (omega arith) in (
      k.0,
      p.0,
      row_done form u v _ _ p.1 ∙ number-then form u w v len (λ a. done (with_content DELETED (record { 0 = a.0 }) no_part (row_in r))) x (ap (given v) (sym c.in_ok-v.was) ∙ k.1),
    )
