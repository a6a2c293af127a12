-- `once::write_differences` meets its contract: the clocks so far are judged, and put or known to have no room, and it is told whether the run's key is far.
use Rattle.runs.specs.declared.ColumnKind.TheVariants.{Difference}
use Rattle.once.proofs.Laws.{Wrote, FarSo}
use Rattle.once.proofs.write_differences.Given as goal

abbrev pub invariant-loop-v : goal.invariant-loop-v
invariant-loop-v l = Wrote Difference l.initial.out 0 l.values l.v-index l.at l.last l.key l.count l.far l.out × FarSo l.key l.far
