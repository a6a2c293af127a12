-- `held::read_any` meets its contract: how many, and then they.
use mathlib.Core.Path.{sym, ap, ◌∙◌}
use native.Mathlib.Omega.{arith}
use lib.ListN.{length-set}
use Rattle.block.specs.Rows.{with_content}
use Rattle.block.specs.Kinds.{ANY}
use Rattle.grammar.specs.Grammar.{len, values, done, draw}
use Rattle.grammar.specs.Grammar.{◌>>=◌}
use Rattle.grammar.specs.Blocks.{any_list}
use Rattle.cells.specs.Cells.{part_in, given}
use Rattle.fields.specs.Fields.{part_given}
use Rattle.held.specs.Row.{row_in, onto}
use Rattle.held.proofs.Rows.{part-narrow, part-put}
use Rattle.held.proofs.Laws.{row_done, number-then, number-stopped, field-then, field-stopped}
use Rattle.held.proofs.read_any.Goals as goal

pub returns-in_err-n : goal.returns-in_err-n
unfolding any_list onto
returns-in_err-n c = rw c.from_residual.ensures (let b = c in
    let form = b.args.form in
    let u = b.args.update.now in
    let w = b.args.w.now in
    let r = b.args.r.now in
    let v = c.read_len.new.w in
    let k = c.read_len.ensures in
    (k.0, b.requires.1, number-stopped form u w v len _ (ap (given v) (sym c.in_err-n.was) ∙ k.1)))

pub returns-in_err-read_values : goal.returns-in_err-read_values
unfolding any_list onto part_given
returns-in_err-read_values c = rw c.from_residual-in_err-read_values.ensures (let b = c in
    let form = b.args.form in
    let u = b.args.update.now in
    let w = b.args.w.now in
    let r = b.args.r.now in
    let v = c.read_len.new.w in
    let k = c.read_len.ensures in
    let z = c.read_values.new.w in
    let t = c.read_values.new.r in
    let f = c.read_values.ensures in (
      f.0,
      part-narrow r t b.requires.1 f.1,
      field-stopped form u v z (values b.args.place c.in_ok-n.n) (λ a. done (with_content ANY (record { 0 = c.in_ok-n.n }) a (row_in r))) (ap (part_given 19 z t) (sym c.in_err-read_values.was) ∙ f.2)
          ∙ number-then form u w v len (λ a. draw (values b.args.place a.0) >>= λ y. done (with_content ANY (record { 0 = a.0 }) y (row_in r))) c.in_ok-n.n (ap (given v) (sym c.in_ok-n.was) ∙ k.1),
    ))

pub bounds-r-3 : goal.bounds-r-3
bounds-r-3 c = simp length-set (omega arith)

pub returns : goal.returns
unfolding any_list part_given
returns c = let b = c in
    let form = b.args.form in
    let u = b.args.update.now in
    let w = b.args.w.now in
    let r = b.args.r.now in
    let v = c.read_len.new.w in
    let k = c.read_len.ensures in
    let z = c.read_values.new.w in
    let t = c.read_values.new.r in
    let f = c.read_values.ensures in
    let p = part-put r t b.requires.1 c.in_ok-n.n ANY f.1 (omega arith) in (
      f.0,
      p.0,
      row_done form u z _ _ p.1
          ∙ field-then form u v z (values b.args.place c.in_ok-n.n) (λ a. done (with_content ANY (record { 0 = c.in_ok-n.n }) a (row_in r))) (part_in t 19) (ap (part_given 19 z t) (sym c.in_ok-read_values.was) ∙ f.2)
          ∙ number-then form u w v len (λ a. draw (values b.args.place a.0) >>= λ y. done (with_content ANY (record { 0 = a.0 }) y (row_in r))) c.in_ok-n.n (ap (given v) (sym c.in_ok-n.was) ∙ k.1),
    )
