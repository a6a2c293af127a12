-- `held::read_format` meets its contract: a key, then its value.
use mathlib.Core.Path.{sym, ap, ◌∙◌}
use native.Mathlib.Omega.{arith}
use lib.ListN.{length-set}
use Rattle.block.specs.declared.Block.{Block}
use Rattle.block.specs.Rows.{with_mark, with_content}
use Rattle.block.specs.Kinds.{FORMAT}
use Rattle.grammar.specs.Grammar.{key, value, done, draw}
use Rattle.grammar.specs.Grammar.{◌>>=◌}
use Rattle.grammar.specs.Blocks.{format}
use Rattle.cells.specs.Cells.{part_in}
use Rattle.fields.specs.Fields.{part_given}
use Rattle.held.specs.Row.{row_in, onto}
use Rattle.held.proofs.Rows.{mark-put, part-narrow, part-put}
use Rattle.held.proofs.Laws.{row_done, field-then, field-stopped}
use Rattle.held.proofs.read_format.Goals as goal

pub returns-in_err-read_key : goal.returns-in_err-read_key
unfolding format onto part_given
returns-in_err-read_key c = rw c.from_residual.ensures (let b = c in
    let form = b.args.form in
    let u = b.args.update.now in
    let w = b.args.w.now in
    let r = b.args.r.now in
    let v = c.read_key.new.w in
    let q = c.read_key.new.r in
    let k = c.read_key.ensures in
    (k.0, (mark-put r q b.requires.1 k.1).0, field-stopped form u w v key _ (ap (part_given 21 v q) (sym c.in_err-read_key.was) ∙ k.2)))

pub read_value-requires : goal.read_value-requires
read_value-requires c = (c.read_key.ensures.0, omega (arith, c.read_key.auto.r, c.requires.1.size))

pub returns-in_err-read_value : goal.returns-in_err-read_value
unfolding format onto part_given
returns-in_err-read_value c = rw c.from_residual-in_err-read_value.ensures (let b = c in
    let form = b.args.form in
    let u = b.args.update.now in
    let w = b.args.w.now in
    let r = b.args.r.now in
    let v = c.read_key.new.w in
    let q = c.read_key.new.r in
    let k = c.read_key.ensures in
    let z = c.read_value.new.w in
    let t = c.read_value.new.r in
    let f = c.read_value.ensures in
    let p = mark-put r q b.requires.1 k.1 in (
      f.0,
      part-narrow q t p.0 f.1,
      field-stopped form u v z (value b.args.place) (λ a. done (with_mark (part_in q 21) (with_content FORMAT (record { 0 = 1 }) a (row_in r)))) (ap (part_given 19 z t) (sym c.in_err-read_value.was) ∙ f.2)
          ∙ field-then form u w v key (λ a. draw (value b.args.place) >>= λ x. done (with_mark a (with_content FORMAT (record { 0 = 1 }) x (row_in r)))) (part_in q 21) (ap (part_given 21 v q) (sym c.in_ok-read_key.was) ∙ k.2),
    ))

pub bounds-r-3 : goal.bounds-r-3
bounds-r-3 c = simp length-set (omega arith)

pub returns : goal.returns
unfolding format part_given
returns c = let b = c in
    let form = b.args.form in
    let u = b.args.update.now in
    let w = b.args.w.now in
    let r = b.args.r.now in
    let v = c.read_key.new.w in
    let q = c.read_key.new.r in
    let k = c.read_key.ensures in
    let z = c.read_value.new.w in
    let t = c.read_value.new.r in
    let f = c.read_value.ensures in
    let p = mark-put r q b.requires.1 k.1 in
    let s = part-put q t p.0 1 FORMAT f.1 (omega arith) in (
      f.0,
      s.0,
      row_done form u z _ _ (s.1 ∙ ap (λ (x : Block). with_content FORMAT (record { 0 = 1 }) (part_in t 19) x) p.1)
          ∙ field-then form u v z (value b.args.place) (λ a. done (with_mark (part_in q 21) (with_content FORMAT (record { 0 = 1 }) a (row_in r)))) (part_in t 19) (ap (part_given 19 z t) (sym c.in_ok-read_value.was) ∙ f.2)
          ∙ field-then form u w v key (λ a. draw (value b.args.place) >>= λ x. done (with_mark a (with_content FORMAT (record { 0 = 1 }) x (row_in r)))) (part_in q 21) (ap (part_given 21 v q) (sym c.in_ok-read_key.was) ∙ k.2),
    )
