-- `anys::skip_anys` meets its contract: what is left of the open levels, from here, is all that was to be passed over. Each turn
-- takes a byte or closes a level.
use Prim.Native.Nat.{ℕ, suc, ◌+◌, ◌-◌, ◌*◌, ◌≤◌}
use mathlib.Core.Path.{◌≡◌}
use lib.ListN.{length}
use Rattle.anys.specs.Any.{deepest, anys}
use Rattle.anys.specs.Steps.{rest}
use Rattle.anys.proofs.skip_anys.Given as goal

-- the list itself, and what may be open in it
abbrev pub levels : ℕ
levels = suc deepest

abbrev pub invariant-loop-open : goal.invariant-loop-open
invariant-loop-open l =
    (l.open ≤ levels) × (length l.left ≡ levels) × (length l.keyed ≡ levels) × (rest l.open l.left l.keyed l.update l.blame l.at ≡ anys l.update l.blame l.count l.at-2)

abbrev pub decreases-loop-open : goal.decreases-loop-open
decreases-loop-open l = 2 * (length l.update - l.at) + l.open
