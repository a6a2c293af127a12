-- `chaining::stand_of` meets its contract: a client without a slot, a slot without a chain or a count, or where its queue stands.
use mathlib.Core.Path.{sym, ap, ◌∙◌}
use Prim.Native.Nat.{◌+◌, ◌*◌}
use lib.ListN.{get_or}
use native.Mathlib.Omega.{arith}
use Rattle.placing.specs.declared.Span.{Span}
use Rattle.chaining.specs.Chaining.{stand_in}
use Rattle.placing.proofs.Places.{named-below}
use Rattle.chaining.proofs.Ways.{stand-unnamed, stand-unchained, stand-unreached, stand-found}
use Rattle.chaining.proofs.stand_of.Goals as goal

pub returns-then-not-named : goal.returns-then-not-named
returns-then-not-named c = c.none.ensures ∙ stand-unnamed _ _ _ _ (sym c.is_at-named.ensures ∙ c.if-not-named.true)

pub returns-then-chains-p : goal.returns-then-chains-p
returns-then-chains-p c = c.none-then-chains-p.ensures ∙ stand-unchained _ _ _ _ (sym c.is_at-named.ensures ∙ c.if-not-named.false) (omega arith)

pub returns-then-reach-p : goal.returns-then-reach-p
returns-then-reach-p c = c.none-then-reach-p.ensures
    ∙ stand-unreached _ _ _ _ (sym c.is_at-named.ensures ∙ c.if-not-named.false) (omega arith) (omega arith)

pub span_at-s-requires : goal.span_at-s-requires
span_at-s-requires c = let a = c.args in
    omega (arith, named-below a.slots.now a.n a.client c.rank_of-p.result c.rank_of-p.ensures.0 (sym c.is_at-named.ensures ∙ c.if-not-named.false))

pub returns : goal.returns
returns c = let a = c.args in
    c.stand_in.ensures ∙ ap (λ (s : Span). stand_in s (get_or a.reach.now c.rank_of-p.result 0) (get_or a.chains.now (2 * c.rank_of-p.result) 0) (get_or a.chains.now (2 * c.rank_of-p.result + 1) 0)) c.span_at-s.ensures
    ∙ stand-found a.slots.now a.n a.client c.rank_of-p.result c.rank_of-p.ensures.0 a.chains.now a.reach.now
    (sym c.is_at-named.ensures ∙ c.if-not-named.false) (omega arith) (omega arith)
