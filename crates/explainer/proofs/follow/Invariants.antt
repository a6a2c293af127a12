-- `explainer::follow` meets its contract: each turn is a law of following.
use mathlib.Core.Path.{◌≡◌}
use lib.ListN.{length}
use Rattle.explainer.specs.Following.{followed}
use Rattle.explainer.proofs.Turns.{Follows}
use Rattle.explainer.proofs.Going.{left}
use Rattle.cells.specs.Cells.{state_in}
use Rattle.explainer.proofs.follow.Given as goal

abbrev pub invariant-loop-part : goal.invariant-loop-part
invariant-loop-part l =
    Follows l.form l.update (followed l.form l.update l.n (state_in l.initial.w)) l.w l.sheet l.q l.ahead l.own × (length l.part ≡ 2) × (length l.w ≡ length l.initial.w)

abbrev pub decreases-loop-part : goal.decreases-loop-part
decreases-loop-part l = left l.q
