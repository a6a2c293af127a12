-- `deletes::collect` meets its contract: the rows stored and those to come are all that the words take.
use Prim.Native.Nat.{◌/◌, ◌≤◌}
use mathlib.Core.Path.{◌≡◌}
use lib.ListN.{length}
use Rattle.numbers.specs.Limits.{max_value}
use Rattle.decoder.specs.Update.{delete_set}
use Rattle.deletes.specs.Steps.{comes, left}
use Rattle.deletes.proofs.Rows.{Held}
use Rattle.deletes.proofs.collect.Given as goal

abbrev pub invariant-loop-client : goal.invariant-loop-client
invariant-loop-client l =
    Held l.initial.words (delete_set l.form l.update l.at) l.words (comes l.form l.update l.p) l.n × (l.p.client ≤ max_value) × (l.most ≡ length l.initial.words / 3)

abbrev pub decreases-loop-client : goal.decreases-loop-client
decreases-loop-client l = left l.p
