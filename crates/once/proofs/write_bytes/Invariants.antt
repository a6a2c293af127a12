-- `once::write_bytes` meets its contract: the bytes so far are judged, and put or known to have no room.
use mathlib.Core.Bool.{false}
use Rattle.runs.specs.declared.ColumnKind.TheVariants.{Byte}
use Rattle.once.proofs.Laws.{Wrote}
use Rattle.once.proofs.write_bytes.Given as goal

abbrev pub invariant-loop-b : goal.invariant-loop-b
invariant-loop-b l = Wrote Byte l.initial.out 0 l.values l.b-index l.at l.key l.key l.count false l.out
