-- `columns::number::next_run` meets its contract: each return is an arm of `begun` or of `counted`, by what was read and tested on the way.
use mathlib.Core.Path.{◌≡◌, ap, ◌∙◌}
use borrow.Author.Tests.{lt-ltb, le-ltb, not-false}
use Rattle.numbers.specs.Number.{read_unsigned, read_signed}
use Rattle.numbers.specs.NumberInner.{why_signed, why_read}
use Rattle.columns.specs.declared.number.Answer.TheVariants.{Bad}
use Rattle.columns.specs.Number.{begun, counted}
use Rattle.columns.proofs.number.next_run.Goals as goal
use Rattle.columns.proofs.number.next_run.Goals.{Else-not-minus}

-- where the run's count is read: what came before, once for the three returns after it
begun-here : (c : Else-not-minus)
    → let m = c in let a = m.args in
    begun a.column.now a.at (read_signed a.column.now a.at)
    ≡ counted a.at m.in-Value.x m.in-Value.e (read_unsigned a.column.now m.in-Value.e)
unfolding begun
begun-here c =
    let m = c in
    rw (← m.read_signed-r.ensures, m.in-Value.is, c.if-not-minus.false)

pub returns-in_default : goal.returns-in_default
unfolding begun
returns-in_default c = let told = c.in_default.is in
    rw (← c.read_signed-r.ensures, told) (ap Bad (c.why_signed.ensures ∙ ap why_signed told))

pub returns-then-not-minus : goal.returns-then-not-minus
unfolding begun
returns-then-not-minus c = let m = c in
    rw (← m.read_signed-r.ensures, m.in-Value.is, c.if-not-minus.true) c.draw.ensures

pub returns-in_default-k : goal.returns-in_default-k
unfolding counted
returns-in_default-k c = let told = c.in_default-k.is in
    let k = c in
    rw (begun-here (goal.at.returns-in_default-k c).Else-not-minus, ← k.read_unsigned-k.ensures, told) (ap Bad (c.why_read.ensures ∙ ap why_read told))

pub returns-then-c-gt-MAX_COUNT : goal.returns-then-c-gt-MAX_COUNT
unfolding counted
returns-then-c-gt-MAX_COUNT c = let k = c in
    rw (begun-here (goal.at.returns-then-c-gt-MAX_COUNT c).Else-not-minus, ← k.read_unsigned-k.ensures, c.in-Number.is, lt-ltb _ _ c.if-c-gt-MAX_COUNT.true)

pub returns : goal.returns
unfolding counted
returns c = let k = c in
    rw (begun-here (goal.at.returns c).Else-not-minus, ← k.read_unsigned-k.ensures, c.in-Number.is, le-ltb _ _ c.if-c-gt-MAX_COUNT.false) c.draw-2.ensures
