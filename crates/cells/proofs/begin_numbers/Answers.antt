-- `cells::begin_numbers` meets its contract: each return is an arm of `begun` or of `counted`, by what was read and tested on the way.
use Rattle.cells.proofs.Numbers.{first_cell, number-refused, number-drawn, next-begun}
use Rattle.cells.specs.Cells.{cell, numbers_in}
use Rattle.columns.specs.Number.{begun, counted, next_number}
use Rattle.numbers.specs.NumberInner.{why_signed, why_read}
use borrow.Author.Tests.{lt-ltb, le-ltb}
use lib.ListN.{get_or, take}
use mathlib.Core.Path.{◌≡◌, refl, sym, ap, ◌∙◌}
use Prim.Native.Nat.{◌+◌, ◌*◌}
use native.Mathlib.Omega.{arith}
use Rattle.columns.specs.declared.number.Answer.TheVariants.{Bad}
use Rattle.cells.proofs.begin_numbers.Goals as goal
use Rattle.cells.proofs.begin_numbers.Goals.{After-read_signed-s, After-read_unsigned-n}

-- the next value is that of the run that begins with what was read
begun-here : (d : After-read_signed-s)
    → let a = d.args in
    next_number (take (cell a.w.now a.k 4) a.update.now) (numbers_in a.w.now a.k).place ≡ begun d.upto-column.result.now (get_or a.w.now (7 * a.k) 0) d.read_signed-s.result
unfolding cell
begun-here d =
    let b = d in
    let a = b.args in
    next-begun a.update.now a.w.now a.k d.upto-column.result.now _ b.requires.2 d.upto-column.ensures (first_cell a.w.now a.k)
    ∙ ap (begun d.upto-column.result.now _) (sym d.read_signed-s.ensures)

-- the run has a count: what was read where it stands
counted-here : (q : After-read_unsigned-n)
    → let d = q in
    let a = d.args in
    next_number (take (cell a.w.now a.k 4) a.update.now) (numbers_in a.w.now a.k).place
    ≡ counted (get_or a.w.now (7 * a.k) 0) q.in-Value.x q.in-Value.e q.read_unsigned-n.result
unfolding begun cell
counted-here q = (next-begun q.args.update.now q.args.w.now q.args.k q.upto-column.result.now _ q.requires.2 q.upto-column.ensures (first_cell q.args.w.now q.args.k)
    ∙ ap (begun q.upto-column.result.now _) (sym q.read_signed-s.ensures)) ∙ rw (q.in-Value.is, q.if-minus.true, q.read_unsigned-n.ensures) refl

pub returns-in_default : goal.returns-in_default
unfolding begun
returns-in_default c = let d = c in
    let b = c in
    let a = b.args in
    let told = c.in_default.is in
    number-drawn a.update.now a.w.now a.k _ _ _ (begun-here (goal.at.returns-in_default c).After-read_signed-s)
    (number-refused a.k a.w.now _ _ _ _ b.requires.1.0 (rw told (ap Bad (sym (c.why_signed-why.ensures ∙ ap why_signed told)))) c.refuse.ensures)

pub returns-in_default-n : goal.returns-in_default-n
unfolding counted
returns-in_default-n c = let q = c in
    let b = c in
    let a = b.args in
    let told = c.in_default-n.is in
    number-drawn a.update.now a.w.now a.k _ _ _ (counted-here (goal.at.returns-in_default-n c).After-read_unsigned-n)
    (number-refused a.k a.w.now _ _ _ _ b.requires.1.0 (rw told (ap Bad (sym (c.why_read-why.ensures ∙ ap why_read told)))) c.refuse-in_default-n.ensures)

pub returns-then-c-gt-MAX_COUNT : goal.returns-then-c-gt-MAX_COUNT
unfolding counted
returns-then-c-gt-MAX_COUNT c = let q = c in
    let b = c in
    let a = b.args in
    number-drawn a.update.now a.w.now a.k _ _ _ (counted-here (goal.at.returns-then-c-gt-MAX_COUNT c).After-read_unsigned-n)
    (number-refused a.k a.w.now _ _ _ _ b.requires.1.0 (rw (c.in-Number.is, lt-ltb _ _ c.if-c-gt-MAX_COUNT.true) refl) c.refuse-then-c-gt-MAX_COUNT.ensures)

pub returns-then-minus : goal.returns-then-minus
unfolding counted
returns-then-minus c = let q = c in
    let b = c in
    let a = b.args in
    let two : c.in-Number.c + 1 + 1 ≡ c.in-Number.c + 2 = omega arith in
    number-drawn a.update.now a.w.now a.k _ _ _ (counted-here (goal.at.returns-then-minus c).After-read_unsigned-n ∙ rw (c.in-Number.is, le-ltb _ _ c.if-c-gt-MAX_COUNT.false, ← two) refl) c.put_number.ensures

pub returns : goal.returns
unfolding begun
returns c = let d = c in
    let b = c in
    let a = b.args in
    number-drawn a.update.now a.w.now a.k _ _ _ (begun-here (goal.at.returns c).After-read_signed-s ∙ rw (c.in-Value.is, c.if-minus.false) refl) c.put_number-2.ensures
