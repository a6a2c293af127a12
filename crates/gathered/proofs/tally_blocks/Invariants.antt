-- `gathered::tally_blocks` meets its contract: each answer of a step is a law of the walk down the blocks.
use mathlib.Core.Path.{◌≡◌}
use lib.ListN.{length}
use Rattle.update.specs.Steps.{left}
use Rattle.gathered.specs.Gathered.{blocks_from}
use Rattle.gathered.proofs.Walking.{Walking}
use Rattle.gathered.proofs.tally_blocks.Given as goal

abbrev pub invariant-loop-s : goal.invariant-loop-s
invariant-loop-s l =
    Walking l.form l.update (blocks_from l.form l.update l.blocks l.client l.clock l.initial.w) l.blocks l.w l.r l.memory l.s l.first l.end l.count × (length l.w ≡ length l.initial.w)

abbrev pub decreases-loop-s : goal.decreases-loop-s
decreases-loop-s l = left l.s
