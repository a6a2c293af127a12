-- `item::read_body` meets its contract: the info byte decides.
use mathlib.Core.Path.{ap, ◌∙◌}
use borrow.Author.Tests.{ne_eqb}
use Rattle.block.specs.declared.Block.{Block}
use Rattle.grammar.specs.Blocks.{an_item, body}
use Rattle.item.specs.Row.{Reads}
use Rattle.item.proofs.read_body.Goals as goal

pub returns-in-10 : goal.returns-in-10
unfolding body
returns-in-10 c = let k = c.read_skip.ensures in
    (k.0, k.1, rw c.in-10.is k.2)

pub returns-in-0 : goal.returns-in-0
unfolding body
returns-in-0 c = let k = c.read_gc.ensures in
    (k.0, k.1, rw c.in-0.is k.2)

pub returns-in_default : goal.returns-in_default
unfolding body
returns-in_default c = let b = c in
    let form = b.args.form in
    let u = b.args.update.now in
    let w = b.args.w.now in
    let k = c.read_item.ensures in (
      k.0,
      k.1,
      rw (ne_eqb _ 10 c.in_default.in_default-own.rest.0.1, ne_eqb _ 0 c.in_default.in_default-own.rest.1)
          (k.2 ∙ ap (λ (x : Block). Reads form u w (an_item b.args.info b.args.place x)) b.requires.2),
    )
