-- `held_sorts::refuse` meets its contract: what is cleared holds no block and zeros, and the answer is the refusal's.
use Rattle.std.proofs.Common.{refl, length, ◌∙◌}
use Rattle.numbers.proofs.Output.{padded-none}
use Rattle.updates.proofs.Laws.{rows_none, words-none}
use Rattle.held_sorts.proofs.refuse.Goals as goal

pub returns : goal.returns
returns c =
    let a = c.args in (
      c.none.ensures,
      c.clear.ensures ∙ rows_none a.rows.now (length a.rows.now) a.why refl,
      c.clear-2.ensures ∙ words-none a.ranges.now a.why,
      c.clear-3.ensures ∙ padded-none a.given.now,
      c.clear-4.ensures ∙ padded-none a.order.now,
      c.clear-5.ensures ∙ padded-none a.counts.now,
      c.clear-6.ensures ∙ padded-none a.pending.now,
    )
