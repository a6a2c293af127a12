-- `text::feed` meets its contract: what the rest leads to from the state here is what all of it leads to from the start.
use mathlib.Core.Path.{refl, sym, ◌∙◌}
use native.Mathlib.Omega.{arith}
use Rattle.text.proofs.Laws.{legal-next, turn-after, end_after}
use Rattle.text.proofs.feed.Goals as goal

pub loop-i-init : goal.loop-i-init
loop-i-init c = (c.requires.0, refl, c.requires.2)

pub advance-st-requires : goal.advance-st-requires
advance-st-requires c = c.loop-i.invariant.2

pub loop-i-preserved : goal.loop-i-preserved
loop-i-preserved c = (
  omega arith,
  rw c.advance-st.ensures (turn-after _ c.loop-i.i _ c.loop-i.st c.loop-i-test.true c.requires.1 ∙ c.loop-i.invariant.1),
  rw c.advance-st.ensures (legal-next c.loop-i.st _ c.loop-i.invariant.2),
)

pub returns : goal.returns
returns c = (sym (end_after c.args.s.now c.loop-i.i c.args.to (omega arith) c.loop-i.st) ∙ c.loop-i.invariant.1, c.loop-i.invariant.2)
