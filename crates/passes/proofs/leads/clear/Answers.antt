-- `leads::clear` meets its contract: the first words are zero; aliases have a count where there are words for it.
use Rattle.passes.proofs.Places.{clears, cleared-short, cleared}
use Rattle.passes.proofs.leads.clear.Goals as goal

pub returns-then-lanes-le-COUNT : goal.returns-then-lanes-le-COUNT
returns-then-lanes-le-COUNT c = cleared-short (clears c.args.lanes.now c.requires (c.fill.ensures.after (λ _ h. h))) c.if-lanes-le-COUNT.true

pub returns : goal.returns
returns c = cleared (clears c.args.lanes.now c.requires (c.fill.ensures.after (λ _ h. h))) c.if-lanes-le-COUNT.false
