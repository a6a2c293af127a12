-- `note_far` meets its contract: a store where a key is far, none where it is not.
use mathlib.Core.Path.{sym, ◌∙◌}
use native.Mathlib.Omega.{arith}
use Rattle.runs.specs.Runs.{coding}
use Rattle.tokens.specs.Desk.{lane_in}
use Rattle.tokens.proofs.Words.{alone-none, notes-far}
use Rattle.tokens.proofs.Pushes.{near_of, far-of}
use Rattle.tokens.proofs.lanes.note_far.Goals as goal

pub bounds-lanes-k : goal.bounds-lanes-k
bounds-lanes-k c = let start = c in
    omega (arith, start.requires.0.size, start.requires.1)

pub returns-then-far_with : goal.returns-then-far_with
returns-then-far_with c = let start = c in
    let a = start.args in
    rw (far-of ((coding a.column).near a.key) (sym c.far_with.ensures ∙ c.if-far_with.true))
    (notes-far a.k a.lanes.now start.requires.0 start.requires.1)

pub returns-else-far_with : goal.returns-else-far_with
unfolding lane_in
returns-else-far_with c = let start = c in
    let a = start.args in
    rw (near_of ((coding a.column).near a.key) (sym c.far_with.ensures ∙ c.if-far_with.false))
    (alone-none a.k a.lanes.now start.requires.0 start.requires.1)
