-- `content::scan` meets its contract: each answer of a step is a law of the walk down the blocks.
use mathlib.Core.Path.{◌≡◌}
use lib.ListN.{length, replicate}
use Rattle.update.specs.Steps.{comes, left}
use Rattle.content.proofs.Seek.{Sought}
use Rattle.content.proofs.scan.Given as goal

abbrev pub invariant-loop-t : goal.invariant-loop-t
invariant-loop-t l =
    Sought l.form l.update l.n (comes l.form l.update (replicate 64 0) l.initial.w l.initial.s) l.w l.fields l.memory l.s l.ahead l.found l.row × (length l.w ≡ length l.initial.w)

abbrev pub decreases-loop-t : goal.decreases-loop-t
decreases-loop-t l = left l.s
