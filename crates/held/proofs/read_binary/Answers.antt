-- `held::read_binary` meets its contract: what is read stands in the row.
use mathlib.Core.Path.{sym, ap, ◌∙◌}
use native.Mathlib.Omega.{arith}
use Rattle.block.specs.Rows.{with_content}
use Rattle.block.specs.Kinds.{BINARY}
use Rattle.grammar.specs.Grammar.{bytes, done}
use Rattle.grammar.specs.Blocks.{binary}
use Rattle.decoder.proofs.Laws.{fields-bytes}
use Rattle.cells.specs.Cells.{state_in, part_in}
use Rattle.fields.specs.Fields.{part_given}
use Rattle.held.specs.Row.{row_in, onto}
use Rattle.held.proofs.Rows.{part-narrow, part-put}
use Rattle.held.proofs.Laws.{row_done, field-then, field-stopped}
use lib.ListN.{length-set}
use Rattle.held.proofs.read_binary.Goals as goal

pub returns-in_err-read_buf : goal.returns-in_err-read_buf
unfolding binary onto state_in part_given
returns-in_err-read_buf c = rw c.from_residual.ensures (let b = c in
    let form = b.args.form in
    let u = b.args.update.now in
    let w = b.args.w.now in
    let r = b.args.r.now in
    let v = c.read_buf.new.w in
    let q = c.read_buf.new.r in
    let k = c.read_buf.ensures in
    (k.0, part-narrow r q b.requires.1 k.1, field-stopped form u w v bytes _ (ap (part_given 19 v q) (sym c.in_err-read_buf.was) ∙ k.2 ∙ sym (fields-bytes form u (state_in w)))))

pub bounds-r-3 : goal.bounds-r-3
bounds-r-3 c = simp length-set (omega arith)

pub returns : goal.returns
unfolding binary state_in part_given
returns c = let b = c in
    let form = b.args.form in
    let u = b.args.update.now in
    let w = b.args.w.now in
    let r = b.args.r.now in
    let v = c.read_buf.new.w in
    let q = c.read_buf.new.r in
    let k = c.read_buf.ensures in
    let p = part-put r q b.requires.1 1 BINARY k.1 (omega arith) in (
      k.0,
      p.0,
      row_done form u v _ _ p.1
          ∙ field-then form u w v bytes (λ a. done (with_content BINARY (record { 0 = 1 }) a (row_in r))) (part_in q 19) (ap (part_given 19 v q) (sym c.in_ok-read_buf.was) ∙ k.2 ∙ sym (fields-bytes form u (state_in w))),
    )
