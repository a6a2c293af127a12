-- `held::read_string` meets its contract: what is read stands in the row.
use mathlib.Core.Path.{sym, ap, ◌∙◌}
use native.Mathlib.Omega.{arith}
use Rattle.block.specs.Rows.{with_content}
use Rattle.block.specs.Kinds.{TEXT}
use Rattle.grammar.specs.Grammar.{done}
use Rattle.grammar.specs.Blocks.{string}
use Rattle.fields.specs.Fields.{text_given}
use Rattle.held.specs.Row.{row_in, onto}
use Rattle.held.proofs.Rows.{part-narrow, part-put}
use Rattle.held.proofs.Laws.{row_done, text-then, text-stopped}
use lib.ListN.{length-set}
use Rattle.held.proofs.read_string.Goals as goal

pub returns-in_err-units : goal.returns-in_err-units
unfolding string onto
returns-in_err-units c = rw c.from_residual.ensures (let b = c in
    let form = b.args.form in
    let u = b.args.update.now in
    let w = b.args.w.now in
    let r = b.args.r.now in
    let v = c.read_text.new.w in
    let q = c.read_text.new.r in
    let k = c.read_text.ensures in
    (k.0, part-narrow r q b.requires.1 k.1, text-stopped form u w v 19 q _ (ap (text_given 19 v q) (sym c.in_err-units.was) ∙ k.2)))

pub bounds-r-3 : goal.bounds-r-3
bounds-r-3 c = simp length-set (omega arith)

pub returns : goal.returns
unfolding string
returns c = let b = c in
    let form = b.args.form in
    let u = b.args.update.now in
    let w = b.args.w.now in
    let r = b.args.r.now in
    let v = c.read_text.new.w in
    let q = c.read_text.new.r in
    let k = c.read_text.ensures in
    let x = c.in_ok-units.units in
    let p = part-put r q b.requires.1 x TEXT k.1 (omega arith) in (
      k.0,
      p.0,
      row_done form u v _ _ p.1 ∙ text-then form u w v 19 q (λ a. done (with_content TEXT a.1 a.0 (row_in r))) x (ap (text_given 19 v q) (sym c.in_ok-units.was) ∙ k.2),
    )
