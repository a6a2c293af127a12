-- `byte::put_run` meets its contract: the byte, then its count.
use native.Mathlib.Omega.{arith}
use mathlib.Core.Path.{◌∙◌}
use native.Mathlib.Numerals.{add-one}
use lib.ListN.{length-set}
use Rattle.runs.specs.Byte.{run_bytes}
use Rattle.runs.proofs.Writing.{byte-length}
use Rattle.runs.proofs.byte.put_run.Goals as goal

pub bounds-out-at : goal.bounds-out-at
bounds-out-at c = omega (arith, byte-length c.args.k c.args.n)

pub write_unsigned-requires : goal.write_unsigned-requires
write_unsigned-requires c = simp length-set (omega (arith, byte-length c.args.k c.args.n))

pub returns : goal.returns
unfolding run_bytes
returns c = (omega (arith, c.write_unsigned.ensures.0), c.write_unsigned.ensures.1 ∙ rw add-one)
