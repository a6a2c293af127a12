-- `sweeper::unmet` meets its contract: what was asked for before stage k does not hold the block.
use mathlib.Core.Path.{◌≡◌}
use lib.ListN.{drop}
use Rattle.slots.specs.Slots.{slots_from}
use Rattle.picker.specs.Stages.{stages}
use Rattle.sweeper.specs.Sweeper.{first_held}
use Rattle.sweeper.proofs.unmet.Given as goal

abbrev pub invariant-loop-k : goal.invariant-loop-k
invariant-loop-k l =
    first_held (slots_from l.slots 0 l.n) l.reach (drop l.k (stages l.rule l.b)) ≡ first_held (slots_from l.slots 0 l.n) l.reach (stages l.rule l.b)
