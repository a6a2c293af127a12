-- `numbers::write_unsigned` meets its contract: what is left to write, from here on, onto what is there now, is the whole onto what was there.
use Prim.Native.Nat.{◌+◌, ◌^◌, ◌<◌}
use mathlib.Core.Path.{◌≡◌}
use lib.ListN.{length}
use lib.Seq.{sets}
use Rattle.numbers.specs.Number.{unsigned}
use Rattle.numbers.proofs.write_unsigned.Given as goal

abbrev pub invariant-loop-v : goal.invariant-loop-v
invariant-loop-v l = (sets l.out l.i (unsigned l.v) ≡ sets l.initial.out l.at (unsigned l.x)) × (l.i + length (unsigned l.v) ≡ l.at + length (unsigned l.x)) × (length l.out ≡ length l.initial.out) × (l.v < 2 ^ 64)

abbrev pub decreases-loop-v : goal.decreases-loop-v
decreases-loop-v l = l.v
