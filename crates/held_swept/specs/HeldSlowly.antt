-- Sorting by held ids, slowly (W-211): the slow order of `sorting` (specs/Slow), which is over any rule, by the rule of held ids; and the reports
-- on where it ends.
use Rattle.std.specs.Prelude.{ℕ, List}
use Rattle.block.specs.declared.Id.{Id}
use Rattle.block.specs.declared.Block.{Block}
use Rattle.ranges.specs.Ranges.{Range}
use Rattle.sorting.specs.Steps.{State, start}
use Rattle.sorting.specs.Sorted.{numbers_by, counts_in, pending_in}
use Rattle.sorting.specs.Slow.{slow_steps, slow_outcome}
use Rattle.sorting.specs.Held.{rule_held, held_in, owners}

abbrev pub slow_outcome_held : List Block → List Range → State Id
slow_outcome_held bs rs = slow_outcome rule_held bs (owners bs) (held_in rs)

unfoldable pub slow_order_held : List Block → List Range → List ℕ
slow_order_held bs rs = numbers_by rule_held bs (start (held_in rs)) (slow_steps rule_held bs (owners bs) (held_in rs))

unfoldable pub slow_counts_held : List Block → List Range → List ℕ
slow_counts_held bs rs = counts_in bs (slow_outcome_held bs rs) (owners bs)

unfoldable pub slow_pending_held : List Block → List Range → List ℕ
slow_pending_held bs rs = pending_in rule_held bs (slow_outcome_held bs rs) (owners bs)
