-- `byte::run_size` meets its contract: the byte and its count.
use native.Mathlib.Omega.{arith}
use Rattle.runs.proofs.Writing.{byte-length}
use Rattle.runs.proofs.byte.run_size.Goals as goal

pub returns : goal.returns
returns c = (omega (arith, byte-length c.args.k c.args.n, c.size_unsigned.ensures.0), omega (arith, c.size_unsigned.ensures.1))
