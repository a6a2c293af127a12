-- `held::read_type` meets its contract: its number, and a node name if it has one.
use Prim.Native.Nat.{ℕ}
use mathlib.Core.Path.{◌≡◌, refl, sym, ap, ◌∙◌}
use native.Mathlib.Omega.{arith}
use lib.Dec.{ltb}
use lib.ListN.{length-set}
use borrow.Author.Tests.{lt-ltb, le-ltb}
use Rattle.numbers.specs.Number.{pick}
use Rattle.block.specs.declared.Block.{Block}
use Rattle.block.specs.Row.{no_part}
use Rattle.block.specs.Rows.{with_type, with_content}
use Rattle.block.specs.Kinds.{TYPE, max_type}
use Rattle.grammar.specs.Grammar.{type_number, Grammar, stop}
use Rattle.grammar.specs.Course.{stopped}
use Rattle.grammar.specs.Blocks.{node, type}
use Rattle.decoder.specs.ColumnedInner.{fields}
use Rattle.cells.specs.Cells.{place_in, state_in, given}
use Rattle.held.specs.Row.{row_in, onto, Reads}
use Rattle.held.proofs.Rows.{deleted-put, type_put}
use Rattle.held.proofs.Laws.{stop_is, number-then, number-stopped}
use Rattle.held.proofs.read_type.Goals as goal

pub returns-in_err-number : goal.returns-in_err-number
unfolding type onto
returns-in_err-number c = rw c.from_residual.ensures (let b = c in
    let form = b.args.form in
    let u = b.args.update.now in
    let w = b.args.w.now in
    let r = b.args.r.now in
    let v = c.read_type.new.w in
    let k = c.read_type.ensures in
    (k.0, b.requires.1, number-stopped form u w v type_number _ (ap (given v) (sym c.in_err-number.was) ∙ k.1)))

pub returns-then-number-gt-MAX_TYPE : goal.returns-then-number-gt-MAX_TYPE
unfolding type onto
returns-then-number-gt-MAX_TYPE c = let b = c in
    let form = b.args.form in
    let u = b.args.update.now in
    let w = b.args.w.now in
    let r = b.args.r.now in
    let v = c.read_type.new.w in
    let k = c.read_type.ensures in
    let f = c.refuse.ensures in
    let g : ℕ × ℕ → Grammar Block Block = λ a. pick (ltb max_type a.0) (stop 5 b.args.place) (node a.0 (with_type a.0 (with_content TYPE (record { 0 = 1 }) no_part (row_in r)))) in
    let e : stopped (record { number = 5; place = b.args.place }) ≡ Reads form u v (g (c.in_ok-number.number, place_in v)) = rw (lt-ltb max_type c.in_ok-number.number (omega (arith, c.if-number-gt-MAX_TYPE.true))) (sym (stop_is (fields form u) 5 b.args.place (state_in v))) in
    (f.1, b.requires.1, ap stopped f.3 ∙ e ∙ number-then form u w v type_number g c.in_ok-number.number (ap (given v) (sym c.in_ok-number.was) ∙ k.1))

pub bounds-r : goal.bounds-r
bounds-r c = simp length-set (omega arith)

pub bounds-r-2 : goal.bounds-r-2
bounds-r-2 c = simp length-set (omega arith)

pub bounds-r-3 : goal.bounds-r-3
bounds-r-3 c = simp length-set (omega arith)

pub bounds-r-23 : goal.bounds-r-23
bounds-r-23 c = simp length-set (omega arith)

pub read_node-requires : goal.read_node-requires
read_node-requires c = let b = c in
    let p = deleted-put b.args.r.now b.requires.1 1 TYPE (omega arith) in
    (c.read_type.ensures.0, (type_put _ p.0 c.in_ok-number.number (omega (arith, c.if-number-gt-MAX_TYPE.false))).0, omega (arith, c.if-number-gt-MAX_TYPE.false))

pub returns : goal.returns
unfolding type
returns c = let b = c in
    let form = b.args.form in
    let u = b.args.update.now in
    let w = b.args.w.now in
    let r = b.args.r.now in
    let v = c.read_type.new.w in
    let k = c.read_type.ensures in
    let n = c.read_node.ensures in
    let p = deleted-put r b.requires.1 1 TYPE (omega arith) in
    let t = type_put _ p.0 c.in_ok-number.number (omega (arith, c.if-number-gt-MAX_TYPE.false)) in
    let g : ℕ × ℕ → Grammar Block Block = λ a. pick (ltb max_type a.0) (stop 5 b.args.place) (node a.0 (with_type a.0 (with_content TYPE (record { 0 = 1 }) no_part (row_in r)))) in
    let e : Reads form u v (node c.in_ok-number.number (with_type c.in_ok-number.number (with_content TYPE (record { 0 = 1 }) no_part (row_in r)))) ≡ Reads form u v (g (c.in_ok-number.number, place_in v)) = rw (le-ltb max_type c.in_ok-number.number c.if-number-gt-MAX_TYPE.false) refl in (
      n.0,
      n.1,
      n.2 ∙ ap (λ (y : Block). Reads form u v (node c.in_ok-number.number y)) (t.1 ∙ ap (with_type c.in_ok-number.number) p.1) ∙ e
          ∙ number-then form u w v type_number g c.in_ok-number.number (ap (given v) (sym c.in_ok-number.was) ∙ k.1),
    )
