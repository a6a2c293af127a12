-- `chaining::link` meets its contract: a row elsewhere, one that is too long, a Skip, or any other row.
use mathlib.Core.Path.{◌∙◌}
use native.Mathlib.Omega.{arith}
use Rattle.chaining.proofs.Ways.{link-off, link-long, link-skip, link_on}
use Rattle.chaining.proofs.link.Goals as goal

pub returns-then-chain-clock : goal.returns-then-chain-clock
returns-then-chain-clock c = c.broken.ensures ∙ link-off _ _ (λ e. omega arith)

pub returns-then-length-gt-MAX_CLOCK : goal.returns-then-length-gt-MAX_CLOCK
returns-then-length-gt-MAX_CLOCK c = c.broken-then-length-gt-MAX_CLOCK.ensures ∙ link-long _ _ (omega arith) (omega arith)

pub returns-then-kind-eq-SKIP : goal.returns-then-kind-eq-SKIP
returns-then-kind-eq-SKIP c = c.skip.ensures ∙ link-skip _ _ (omega arith) (omega arith) (omega arith)

pub returns : goal.returns
returns c = link_on _ _ (omega arith) (omega arith) (λ e. omega arith)
