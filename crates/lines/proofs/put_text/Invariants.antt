-- `lines::put_text` meets its contract: so far the first bytes of the text are put.
use Prim.Native.Nat.{◌+◌}
use mathlib.Core.Path.{◌≡◌}
use lib.ListN.{take}
use Rattle.lines.specs.LinesInner.{overlay}
use Rattle.lines.proofs.put_text.Given as goal

abbrev pub invariant-loop-b : goal.invariant-loop-b
invariant-loop-b l = (l.at ≡ l.used + l.b-index) × (l.out ≡ overlay l.initial.out l.used (take l.b-index l.text))
