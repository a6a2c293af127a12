-- `note` meets its contract: nothing is stored, or one alias more.
use Prim.Native.Nat.{◌+◌, ◌*◌}
use mathlib.Core.Path.{refl}
use native.Mathlib.Omega.{arith}
use lib.ListN.{get_or, set, length-set}
use Rattle.tokens.specs.Desk.{key_count, alias_count}
use Rattle.numbering.proofs.Noted.{notes}
use Rattle.numbering.proofs.aliases.note.Goals as goal

pub bounds-lanes-base-2 : goal.bounds-lanes-base-2
bounds-lanes-base-2 c = let start = c in
    let a = start.args in
    let w = a.lanes.now in
    let count = get_or w 564 0 in
    omega (arith, start.requires.1, length-set w (565 + 3 * count) a.part.place, c.if-count-ge-MAX_KEYS.false)

pub bounds-lanes-base-3 : goal.bounds-lanes-base-3
bounds-lanes-base-3 c = let start = c in
    let a = start.args in
    let w = a.lanes.now in
    let count = get_or w 564 0 in
    let w₁ = set w (565 + 3 * count) a.part.place in
    omega (arith, start.requires.1, length-set w (565 + 3 * count) a.part.place, length-set w₁ (565 + 3 * count + 1) a.part.bytes.0, c.if-count-ge-MAX_KEYS.false)

pub bounds-lanes-564-2 : goal.bounds-lanes-564-2
bounds-lanes-564-2 c = let start = c in
    simp length-set (omega (arith, start.requires.1))

pub returns : goal.returns
unfolding key_count alias_count
returns c = let start = c in
    let a = start.args in
    let w = a.lanes.now in
    notes w start.requires.0 start.requires.1 a.part a.number (get_or w 564 0) refl c.if-count-ge-MAX_KEYS.false c.if-known-number.false
