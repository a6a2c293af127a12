-- `once::write_numbers` meets its contract: the numbers so far are judged, and put or known to have no room.
use mathlib.Core.Bool.{false}
use Rattle.runs.specs.declared.ColumnKind.TheVariants.{Number}
use Rattle.once.proofs.Laws.{Wrote}
use Rattle.once.proofs.write_numbers.Given as goal

abbrev pub invariant-loop-v : goal.invariant-loop-v
invariant-loop-v l = Wrote Number l.initial.out 0 l.values l.v-index l.at l.key l.key l.count false l.out
