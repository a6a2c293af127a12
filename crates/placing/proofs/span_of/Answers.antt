-- `placing::span_of` meets its contract: the slot at the rank, if it is the client's.
use mathlib.Core.Path.{sym, ◌∙◌}
use native.Mathlib.Omega.{arith}
use Rattle.placing.proofs.Places.{named-below, span-some, span_none}
use Rattle.placing.proofs.span_of.Goals as goal

pub span_at-requires : goal.span_at-requires
span_at-requires c = let a = c.args in
    omega (arith, named-below a.slots.now a.n a.client c.rank_of-p.result c.rank_of-p.ensures.0 (sym c.is_at-named.ensures ∙ c.if-named.true))

pub returns-then-named : goal.returns-then-named
returns-then-named c = let a = c.args in
    c.span_at.ensures ∙ sym (span-some a.slots.now a.n a.client c.rank_of-p.result c.rank_of-p.ensures.0 (sym c.is_at-named.ensures ∙ c.if-named.true))

pub returns : goal.returns
returns c = let a = c.args in
    sym (span_none a.slots.now a.n a.client c.rank_of-p.result c.rank_of-p.ensures.0 (sym c.is_at-named.ensures ∙ c.if-named.false))
