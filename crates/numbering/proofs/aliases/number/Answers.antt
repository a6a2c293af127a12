-- `number` meets its contract: an alias's third word.
use Prim.Native.Nat.{◌+◌, ◌*◌}
use mathlib.Core.Path.{◌≡◌}
use native.Mathlib.Omega.{arith}
use Rattle.tokens.specs.Desk.{alias_number}
use Rattle.numbering.proofs.aliases.number.Goals as goal

pub returns : goal.returns
unfolding alias_number
returns c = let a = c.args in
    let next : 565 + 3 * a.i + 2 ≡ 567 + 3 * a.i = omega arith in
    rw next
