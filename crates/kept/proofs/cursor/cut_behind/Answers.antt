-- `kept::cut_behind` meets its contract: what begins later is told by its clock, its length and its left id.
use mathlib.Core.Path.{refl}
use native.Mathlib.Omega.{arith}
use Rattle.kept.proofs.Sane.{sane-within}
use Rattle.kept.proofs.cursor.cut_behind.Goals as goal

pub left_of-left-requires : goal.left_of-left-requires
left_of-left-requires c = let s = c in
    let w = sane-within s.args.b s.args.e s.requires.0 in
    (omega (arith, w.some, w.units, w.end), s.requires.1)

pub overflow_cast-start : goal.overflow_cast-start
overflow_cast-start c = let s = c in
    omega (arith, (sane-within s.args.b s.args.e s.requires.0).end)

pub overflow_add-start : goal.overflow_add-start
overflow_add-start c = let s = c in
    let w = sane-within s.args.b s.args.e s.requires.0 in
    omega (arith, w.some, w.units, w.end)

pub overflow_cast-clock : goal.overflow_cast-clock
overflow_cast-clock c = let s = c in
    let w = sane-within s.args.b s.args.e s.requires.0 in
    omega (arith, w.some, w.units, w.end)

pub overflow_sub-rest : goal.overflow_sub-rest
overflow_sub-rest c = let s = c in
    (sane-within s.args.b s.args.e s.requires.0).some

pub returns : goal.returns
returns c = let p4 = c in
    let p5 = c in
    let p6 = c in
    rw (p6.left_of-left.ensures, p5.part_at-part.ensures, p4.is_item-is_item.ensures) refl
