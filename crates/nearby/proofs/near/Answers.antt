-- `nearby::near` meets its contract: what the first and the next row tell, if they are there.
use Rattle.std.proofs.Common.{sym, ◌∙◌}
use Rattle.nearby.proofs.Ways.{first-seen, next-seen, near-seen, near_none}
use Rattle.nearby.proofs.near.Goals as goal

pub fetch-a-requires : goal.fetch-a-requires
fetch-a-requires c = first-seen c.args.rows.now c.args.t c.args.clock (sym c.is_seen-any.ensures ∙ c.if-any.true)

pub fetch-b-requires : goal.fetch-b-requires
fetch-b-requires c = next-seen c.args.rows.now c.args.t c.args.clock (sym c.is_seen-any.ensures ∙ c.if-any.true)

pub returns-then-any : goal.returns-then-any
returns-then-any c = c.see.ensures
    ∙ rw (c.fetch-a.ensures, c.fetch-b.ensures) (near-seen c.args.rows.now c.args.t c.args.clock (sym c.is_seen-any.ensures ∙ c.if-any.true))

pub returns : goal.returns
returns c = near_none c.args.rows.now c.args.t c.args.clock (sym c.is_seen-any.ensures ∙ c.if-any.false)
