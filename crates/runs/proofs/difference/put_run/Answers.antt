-- `difference::put_run` meets its contract: the run as a signed number and its count.
use Prim.Native.Nat.{ℕ}
use native.Mathlib.Omega.{arith}
use mathlib.Core.Path.{ap}
use lib.Dec.{ltb}
use lib.ListN.{length}
use Rattle.runs.specs.Difference.{zero_key}
use Rattle.runs.specs.RunsInner.{signed_run}
use Rattle.runs.proofs.Writing.{difference-run}
use Rattle.runs.proofs.difference.put_run.Goals as goal

pub put_counted-requires : goal.put_counted-requires
put_counted-requires c = let a = c.args in
    let q = ap (λ (x : ℕ). length (signed_run (ltb a.k zero_key) x a.n)) c.magnitude_of-x.ensures in
    omega (arith, q, ap length (difference-run a.k a.n))

pub returns : goal.returns
returns c = let a = c.args in rw (difference-run a.k a.n, ← c.magnitude_of-x.ensures) c.put_counted.ensures
