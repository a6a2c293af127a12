-- What the slow plain sorter's sweeps come to: the slow order of sorting by the rule, and the reports on where it ends.
use Rattle.std.specs.Prelude.{◌≡◌, List, ℕ, length}
use Rattle.block.specs.declared.Block.{Block}
use Rattle.vector.specs.Vector.{Entry}
use Rattle.slots.specs.Slots.{Slot}
use Rattle.sorting.specs.Named.{rule_of}
use Rattle.sorting.specs.Slow.{slow_order_of, slow_counts_of, slow_reaches_of, slow_pending_of}
use Rattle.reports.specs.Reports.{reaches_from}
use Rattle.outcome.specs.Tie.{overlaid}
use Rattle.sweeper.specs.Sweeper.{Board}
use Rattle.sweep_reports.specs.Reports.{taken_from, waits_from}

-- the board shows it, the words of the order having been these before the first sweep
pub record Swept (rule : ℕ) (bs : List Block) (v : List Entry) (ss : List Slot) (rows : List Block) (before : List ℕ) (d : Board) : Type 0 where
  pub steps : d.steps ≡ length (slow_order_of (rule_of rule) bs v)
  pub order : d.order ≡ overlaid before (slow_order_of (rule_of rule) bs v)
  pub counts : taken_from 0 ss d.taken ≡ slow_counts_of (rule_of rule) bs v
  pub reaches : reaches_from 0 ss d.reach ≡ slow_reaches_of (rule_of rule) bs v
  pub pending : waits_from 0 rule ss rows d.reach d.taken ss ≡ slow_pending_of (rule_of rule) bs v
