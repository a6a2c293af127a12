-- `bulk::long_run` meets its contract: each return is an arm of `begun` or of `counted`, by what was read and tested on the way.
use mathlib.Core.Path.{◌≡◌, ap, ◌∙◌}
use borrow.Author.Tests.{lt-ltb, le-ltb}
use Rattle.numbers.specs.declared.Signed.TheVariants.{Value}
use Rattle.numbers.specs.Number.{read_unsigned}
use Rattle.numbers.specs.NumberInner.{why_read}
use Rattle.columns.specs.declared.number.Answer.TheVariants.{Bad}
use Rattle.columns.specs.Number.{begun, counted}
use Rattle.bulk.proofs.long_run.Goals as goal
use Rattle.bulk.proofs.long_run.Goals.{Else-not-minus}

-- where the run's count is read: what came before, once for the three returns after it
begun-here : (c : Else-not-minus)
    → let a = c.args in
    begun a.column.now a.from (Value a.minus a.x a.e) ≡ counted a.from a.x a.e (read_unsigned a.column.now a.e)
unfolding begun
begun-here c = rw (c.if-not-minus.false)

pub returns-then-not-minus : goal.returns-then-not-minus
unfolding begun
returns-then-not-minus c = rw (c.if-not-minus.true) c.draw_number.ensures

pub returns-in_default : goal.returns-in_default
unfolding counted
returns-in_default c = let told = c.in_default.is in
    let k = c in
    rw (begun-here (goal.at.returns-in_default c).Else-not-minus, ← k.read_unsigned-k.ensures, told) (ap Bad (c.why_read.ensures ∙ ap why_read told))

pub returns-then-c-gt-MAX_COUNT : goal.returns-then-c-gt-MAX_COUNT
unfolding counted
returns-then-c-gt-MAX_COUNT c = let k = c in
    rw (begun-here (goal.at.returns-then-c-gt-MAX_COUNT c).Else-not-minus, ← k.read_unsigned-k.ensures, c.in-Number.is, lt-ltb _ _ c.if-c-gt-MAX_COUNT.true)

pub returns : goal.returns
unfolding counted
returns c = let k = c in
    rw (begun-here (goal.at.returns c).Else-not-minus, ← k.read_unsigned-k.ensures, c.in-Number.is, le-ltb _ _ c.if-c-gt-MAX_COUNT.false) c.draw_number-2.ensures
