-- `origins::byte_times` meets its contract: by the count behind the byte.
use mathlib.Core.Path.{refl}
use native.Mathlib.Omega.{arith}
use Prim.Native.Nat.{◌+◌}
use lib.ListN.{drop_of_length-le}
use Rattle.numbers.specs.Number.{read_unsigned, answer_at, spelt}
use Rattle.origins.specs.Origins.{byte_times, times_read}
use Rattle.origins.proofs.byte_times.Goals as goal

pub returns-then-s-from : goal.returns-then-s-from
unfolding byte_times times_read read_unsigned answer_at spelt
returns-then-s-from c = let a = c.args in rw (drop_of_length-le a.s.now {i = a.from + 1} (omega (arith, c.if-s-from.true))) refl

pub returns : goal.returns
unfolding byte_times
returns c = c.counted.ensures
