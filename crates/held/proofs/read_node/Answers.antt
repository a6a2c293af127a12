-- `held::read_node` meets its contract: a name, if there is one.
use mathlib.Core.Path.{refl, sym, ◌∙◌}
use Rattle.grammar.specs.Blocks.{node}
use Rattle.held.specs.Row.{row_in}
use Rattle.held.proofs.Rows.{mark-put}
use Rattle.held.proofs.Laws.{row_done, marked}
use Rattle.held.proofs.read_node.Goals as goal

pub returns-then-is_named : goal.returns-then-is_named
unfolding node
returns-then-is_named c = let b = c in
    let form = b.args.form in
    let u = b.args.update.now in
    let w = b.args.w.now in
    let r = b.args.r.now in
    let v = c.read_key.new.w in
    let q = c.read_key.new.r in
    let k = c.read_key.ensures in
    let p = mark-put r q b.requires.1 k.1 in
    (k.0, p.0, rw (sym c.is_named.ensures ∙ c.if-is_named.true) (marked form u w v r q c.read_key.result p.1 k.2))

pub returns : goal.returns
unfolding node
returns c = let b = c in
    let form = b.args.form in
    let u = b.args.update.now in
    let w = b.args.w.now in
    let r = b.args.r.now in
    (b.requires.0, b.requires.1, rw (sym c.is_named.ensures ∙ c.if-is_named.false) (row_done form u w r (row_in r) refl))
