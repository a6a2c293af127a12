-- `known` meets its contract: two words are a part.
use Prim.Native.Nat.{◌+◌, ◌*◌}
use mathlib.Core.Path.{◌≡◌}
use native.Mathlib.Omega.{arith}
use Rattle.tokens.specs.Desk.{key_at}
use Rattle.numbering.proofs.known.Goals as goal

pub returns : goal.returns
unfolding key_at
returns c = let a = c.args in
    let next : 52 + 2 * a.i + 1 ≡ 53 + 2 * a.i = omega arith in
    rw next
