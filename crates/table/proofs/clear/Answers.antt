-- `table::clear` meets its contract: a turn fills one row more, and at the end there is none left to fill.
use Rattle.std.proofs.Common.{refl, sym, ap, ◌∙◌, ◌+◌, ◌<◌, arith, length}
use Rattle.block.specs.declared.Block.{Block}
use Rattle.table.specs.Rows.{filled_from, cleared_from}
use Rattle.table.proofs.Rows.{filled_more, filled_none}
use Rattle.table.proofs.clear.Goals as goal

pub loop-i-init : goal.loop-i-init
loop-i-init c = (refl, refl)

pub loop-i-preserved : goal.loop-i-preserved
loop-i-preserved c =
    let b = c.none-none.result in
    let here : c.loop-i.i < length c.loop-i.rows = omega (arith, c.loop-i.invariant.1) in (
      ap (filled_from (c.loop-i.i + 1) b) c.fill.ensures ∙ filled_more b c.loop-i.rows c.loop-i.i here ∙ c.loop-i.invariant.0,
      c.fill.auto.rows ∙ c.loop-i.invariant.1,
    )

pub returns : goal.returns
unfolding cleared_from
returns c =
    let b = c.none-none.result in
    sym (filled_none b c.loop-i.rows c.loop-i.i (omega (arith, c.loop-i.invariant.1))) ∙ c.loop-i.invariant.0
    ∙ ap (λ (x : Block). filled_from c.args.from x c.args.rows.now) c.none-none.ensures
