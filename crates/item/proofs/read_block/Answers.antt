-- `item::read_block` meets its contract: an info byte, then what it announces.
use mathlib.Core.Path.{sym, ap, ◌∙◌}
use Prim.Native.Nat.{ℕ}
use Rattle.block.specs.declared.Block.{Block}
use Rattle.grammar.specs.Grammar.{info, done}
use Rattle.grammar.specs.Grammar.{◌>>=◌}
use Rattle.grammar.specs.Blocks.{body, block}
use Rattle.decoder.specs.ColumnedInner.{fields}
use Rattle.cells.specs.Cells.{state_in, place_in, given}
use Rattle.item.specs.Row.{row_in, onto, block_onto, Reads}
use Rattle.item.proofs.Rows.{begun-is}
use Rattle.held.proofs.Laws.{done-is, number-then, number-stopped, row-then, row-stopped}
use Rattle.item.proofs.read_block.Goals as goal

pub returns-in_err-info : goal.returns-in_err-info
unfolding block block_onto
returns-in_err-info c = rw c.from_residual.ensures (let b = c in
    let form = b.args.form in
    let u = b.args.update.now in
    let w = b.args.w.now in
    let q = c.begin_row.new.r in
    let row = c.begin_row.ensures in
    let v = c.read_info.new.w in
    let k = c.read_info.ensures in
    (k.0, row.0, number-stopped form u w v info _ (ap (given v) (sym c.in_err-info.was) ∙ k.1)))

pub read_body-requires : goal.read_body-requires
read_body-requires c = let b = c in
    let row = c.begin_row.ensures in
    (c.read_info.ensures.0, row.0, begun-is c.begin_row.new.r b.args.client b.args.clock row.1)

pub returns-in_err-read_body : goal.returns-in_err-read_body
unfolding block block_onto place_in
returns-in_err-read_body c = rw c.from_residual-in_err-read_body.ensures (let b = c in
    let form = b.args.form in
    let u = b.args.update.now in
    let w = b.args.w.now in
    let q = c.begin_row.new.r in
    let row = c.begin_row.ensures in
    let v = c.read_info.new.w in
    let k = c.read_info.ensures in
    let x = c.in_ok-info.info in
    let p = place_in v in
    let client = b.args.client in
    let clock = b.args.clock in
    let z = c.read_body.new.w in
    let t = c.read_body.new.r in
    let f = c.read_body.ensures in
    let same = ap (λ (y : Block). Reads form u v (body y.client y.clock x p)) row.1 in
    let first = number-then form u {A = Block × ℕ} w v info (λ a. body client clock a.0 a.1 >>= λ y. done (y, a.1)) x (ap (given v) (sym c.in_ok-info.was) ∙ k.1) in
    (f.0, f.1, row-stopped form u v z t (body client clock x p) (λ y. done (y, p)) (ap (onto z t) (sym c.in_err-read_body.was) ∙ f.2 ∙ same) ∙ first))

pub returns : goal.returns
unfolding block block_onto place_in
returns c = let b = c in
    let form = b.args.form in
    let u = b.args.update.now in
    let w = b.args.w.now in
    let q = c.begin_row.new.r in
    let row = c.begin_row.ensures in
    let v = c.read_info.new.w in
    let k = c.read_info.ensures in
    let x = c.in_ok-info.info in
    let p = place_in v in
    let client = b.args.client in
    let clock = b.args.clock in
    let z = c.read_body.new.w in
    let t = c.read_body.new.r in
    let f = c.read_body.ensures in
    let same = ap (λ (y : Block). Reads form u v (body y.client y.clock x p)) row.1 in
    let first = number-then form u {A = Block × ℕ} w v info (λ a. body client clock a.0 a.1 >>= λ y. done (y, a.1)) x (ap (given v) (sym c.in_ok-info.was) ∙ k.1) in
    (f.0, f.1, sym (done-is (fields form u) (row_in t, p) (state_in z)) ∙ row-then form u v z t (body client clock x p) (λ y. done (y, p)) (ap (onto z t) (sym c.in_ok-read_body.was) ∙ f.2 ∙ same) ∙ first)
