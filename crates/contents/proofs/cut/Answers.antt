-- `cut` meets its contract: from the place to the end there are the part's bytes.
use Prim.Native.Nat.{ℕ, ◌+◌, ◌-◌}
use native.Mathlib.Omega.{arith}
use mathlib.Core.Path.{◌≡◌, refl, ap}
use lib.ListN.{take, drop}
use Rattle.contents.proofs.cut.Goals as goal

pub returns : goal.returns
returns c = let u = c.args.update.now in
    let p = c.args.p in
    let count : p.place + p.bytes.0 - p.place ≡ p.bytes.0 = omega arith in
    (ap (λ (k : ℕ). take k (drop p.place u)) count, refl)
