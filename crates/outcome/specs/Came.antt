-- What a sorter's looks come to: the one outcome of sorting by the rule.
use Rattle.std.specs.Prelude.{◌≡◌, List, ℕ, length}
use Rattle.block.specs.declared.Block.{Block}
use Rattle.vector.specs.Vector.{Entry}
use Rattle.slots.specs.Slots.{Slot}
use Rattle.picker.specs.Picker.{Desk}
use Rattle.sorting.specs.Named.{rule_of}
use Rattle.sorting.specs.Sorted.{outcome_of, order_of}
use Rattle.outcome.specs.Tie.{Ended, overlaid}

-- the desk shows it, the words of the order having been these before the first look
pub record Came (rule : ℕ) (bs : List Block) (v : List Entry) (ss : List Slot) (before : List ℕ) (d : Desk) : Type 0 where
  pub steps : d.at.steps ≡ length (order_of (rule_of rule) bs v)
  pub order : d.order ≡ overlaid before (order_of (rule_of rule) bs v)
  pub ended : Ended rule bs ss (outcome_of (rule_of rule) bs v) d.reach d.fronts
