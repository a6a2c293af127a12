-- `fields::read_u8` meets its contract: a byte moves the place in line.
use native.Mathlib.Omega.{arith}
use mathlib.Core.Path.{◌∙◌}
use Prim.Native.Nat.{◌+◌}
use lib.ListN.{get_or, length-set}
use Rattle.cells.specs.Cells.{at_in, state_in}
use Rattle.fields.proofs.Laws.{small-moved, given-moved, given-refused, byte-none, byte-read}
use Rattle.fields.proofs.read_u8.Goals as goal

pub returns-then-update-at : goal.returns-then-update-at
unfolding at_in
returns-then-update-at c = let b = c in
    let u = b.args.update.now in
    let w = b.args.w.now in
    let k = c.refuse.ensures in
    (k.1, given-refused c.refuse.new.w k.0 k.3 ∙ byte-none u (state_in w) (at_in w) c.if-update-at.true)

pub overflow_cast-v : goal.overflow_cast-v
overflow_cast-v c = omega (arith, c.type_inv.update (get_or c.args.w.now 63 0))

pub bounds-w-64 : goal.bounds-w-64
bounds-w-64 c = simp length-set (omega arith)

pub returns : goal.returns
unfolding at_in
returns c = let b = c in
    let u = b.args.update.now in
    let w = b.args.w.now in
    let at = at_in w in (
      small-moved w b.requires (at + 1) at,
      given-moved w b.requires (at + 1) at (get_or u at 0) ∙ byte-read u (state_in w) at c.if-update-at.false,
    )
