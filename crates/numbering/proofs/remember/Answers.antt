-- `remember` meets its contract: that there is no room is said, or the key is stored.
use Prim.Native.Nat.{◌+◌, ◌*◌}
use native.Mathlib.Omega.{arith}
use lib.ListN.{length-set}
use Rattle.tokens.specs.Desk.{key_count}
use Rattle.numbering.proofs.Words.{says-crowded, stores}
use Rattle.numbering.proofs.remember.Goals as goal

pub returns-then-count-ge-MAX_KEYS : goal.returns-then-count-ge-MAX_KEYS
returns-then-count-ge-MAX_KEYS c = let start = c in
    let a = start.args in
    says-crowded a.lanes.now start.requires.0 a.count start.requires.2 a.part c.if-count-ge-MAX_KEYS.true

pub bounds-lanes-base-2 : goal.bounds-lanes-base-2
unfolding key_count
bounds-lanes-base-2 c = let start = c in
    let a = start.args in
    omega (arith, start.requires.1, start.requires.2, length-set a.lanes.now (52 + 2 * a.count) a.part.place, c.if-count-ge-MAX_KEYS.false)

pub bounds-lanes-50 : goal.bounds-lanes-50
bounds-lanes-50 c = let start = c in
    simp length-set (omega (arith, start.requires.1))

pub returns : goal.returns
returns c = let start = c in
    let a = start.args in
    stores a.lanes.now start.requires.0 a.count start.requires.2 a.part start.requires.1 c.if-count-ge-MAX_KEYS.false
