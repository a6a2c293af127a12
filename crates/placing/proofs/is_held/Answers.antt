-- `placing::is_held` meets its contract: the range that halving finds.
use mathlib.Core.Path.{ap, ◌∙◌}
use Prim.Native.Nat.{ℕ}
use Rattle.placing.specs.Placing.{begins, is_held}
use Rattle.placing.proofs.is_held.Goals as goal

pub returns : goal.returns
unfolding is_held
returns c = let a = c.args in
    c.is_begun.ensures ∙ ap (λ (i : ℕ). begins a.words.now a.n i a.id) c.seek_range-i.ensures
