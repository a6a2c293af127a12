-- `text::advance` meets its contract: a return a way of `next`.
use Prim.Native.Nat.{◌+◌, ◌*◌, ◌<◌}
use mathlib.Core.Path.{sym, ap, ◌∙◌}
use native.Mathlib.Omega.{arith}
use Rattle.text.specs.Utf8.{next}
use Rattle.text.proofs.Laws.{next-first, next_low, next-high, next_more, legal-open, up_fits}
use Rattle.text.proofs.advance.Goals as goal
use Rattle.text.proofs.advance.Goals.{After-wide-six}

-- the number fits after six bits more
fits : (c : After-wide-six)
    → c.in-Open.value * 64 + 63 < 16777216
fits c =
    let k = c in
    up_fits k.in-Open.more _ c.if-more-eq0.false (legal-open _ _ _ _ _ k.in-Open.is k.requires)

pub returns-then-more-eq0 : goal.returns-then-more-eq0
returns-then-more-eq0 c = let k = c in
    c.first.ensures ∙ sym (ap (λ st. next st k.args.b) k.in-Open.is ∙ next-first _ _ _ _ _ c.if-more-eq0.true)

pub returns-then-b-low : goal.returns-then-b-low
returns-then-b-low c = let k = c in
    sym (ap (λ st. next st k.args.b) k.in-Open.is ∙ next_low _ _ _ _ _ c.if-more-eq0.false c.if-b-low.true)

pub returns-then-high-b : goal.returns-then-high-b
returns-then-high-b c = let k = c in
    sym (ap (λ st. next st k.args.b) k.in-Open.is ∙ next-high _ _ _ _ _ c.if-more-eq0.false c.if-b-low.false c.if-high-b.true)

pub overflow_mul-up : goal.overflow_mul-up
overflow_mul-up c = omega (arith, fits c)

pub overflow_add-whole : goal.overflow_add-whole
overflow_add-whole c = omega (arith, fits c)

pub returns-in-Broken : goal.returns-in-Broken
unfolding next
returns-in-Broken c = rw c.in-Broken.is

pub returns-else-high-b : goal.returns-else-high-b
returns-else-high-b c = let k = c in
    sym (ap (λ st. next st k.args.b) k.in-Open.is ∙ next_more _ _ _ _ _ c.wide-six.result c.wide-six.ensures c.if-more-eq0.false c.if-b-low.false c.if-high-b.false)
