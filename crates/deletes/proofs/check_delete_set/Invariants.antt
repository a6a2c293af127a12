-- `deletes::check_delete_set` meets its contract: what follows the last range, from here, is what follows it from the start.
use Rattle.std.specs.Prelude.{ℕ, Result, Ok, Err}
use Rattle.numbers.specs.declared.Refusal.{Refusal}
use mathlib.Core.Path.{◌≡◌}
use Rattle.ranges.specs.Ranges.{Range}
use Rattle.grammar.specs.Course.{Course, ending}
use Rattle.decoder.specs.Update.{delete_set}
use Rattle.deletes.specs.Steps.{comes, left}
use Rattle.deletes.proofs.check_delete_set.Given as goal

abbrev pub ends : Course Range → Result ℕ Refusal
ends c = ending c Ok Err

abbrev pub invariant-loop-t : goal.invariant-loop-t
invariant-loop-t l = ends (comes l.form l.update l.p) ≡ ends (delete_set l.form l.update l.at)

abbrev pub decreases-loop-t : goal.decreases-loop-t
decreases-loop-t l = left l.p
