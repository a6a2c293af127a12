-- `once::write_texts` meets its contract: behind the text, the unit lengths so far are judged, and put or known to have no room, and their texts are taken.
use mathlib.Core.Bool.{false}
use Rattle.runs.specs.declared.ColumnKind.TheVariants.{Number}
use Rattle.once.proofs.Laws.{Wrote}
use Rattle.once.proofs.Texts.{TakenTo}
use Rattle.once.proofs.write_texts.Given as goal

abbrev pub invariant-loop-u : goal.invariant-loop-u
invariant-loop-u l = Wrote Number l.initial.out l.initial.at l.units l.u-index l.at l.key l.key l.count false l.out × TakenTo l.text l.units l.u-index l.t
