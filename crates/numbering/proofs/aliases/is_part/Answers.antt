-- `is_part` meets its contract: two words are a part.
use Prim.Native.Nat.{◌+◌, ◌*◌}
use mathlib.Core.Path.{◌≡◌}
use native.Mathlib.Omega.{arith}
use lib.ListN.{get_or}
use borrow.Author.Tests.{eq-eqb, ne_eqb}
use Rattle.tokens.specs.Desk.{alias_at}
use Rattle.numbering.specs.Numbering.{same_part}
use Rattle.numbering.proofs.aliases.is_part.Goals as goal

pub returns-then-lanes-base : goal.returns-then-lanes-base
unfolding same_part alias_at
returns-then-lanes-base c = let a = c.args in
    let next : 565 + 3 * a.i + 1 ≡ 566 + 3 * a.i = omega arith in
    rw (eq-eqb (get_or a.lanes.now (565 + 3 * a.i) 0) a.part.place c.if-lanes-base.true, next)

pub returns-else-lanes-base : goal.returns-else-lanes-base
unfolding same_part alias_at
returns-else-lanes-base c = let a = c.args in
    rw (ne_eqb (get_or a.lanes.now (565 + 3 * a.i) 0) a.part.place c.if-lanes-base.false)
