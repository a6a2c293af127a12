-- `bulk::byte_run` meets its contract: each return is an arm of `begun` or of `counted`, by the bytes left and the count read.
use Prim.Native.Nat.{◌+◌}
use mathlib.Core.Path.{◌≡◌, ap, ◌∙◌}
use lib.ListN.{get_or}
use borrow.Author.Tests.{lt-ltb, le-ltb, le-leb, lt-leb}
use Rattle.numbers.specs.Number.{read_unsigned}
use Rattle.numbers.specs.NumberInner.{why_read}
use Rattle.columns.specs.declared.byte.Answer.TheVariants.{Bad}
use Rattle.columns.specs.Byte.{begun, counted}
use Rattle.bulk.proofs.byte_run.Goals as goal
use Rattle.bulk.proofs.byte_run.Goals.{Else-column-e}

-- where the run's count is read: what came before, once for the three returns after it
begun-here : (c : Else-column-e)
    → let a = c.args in let s = a.column.now in
    begun s a.at ≡ counted a.at (get_or s a.at 0) (a.at + 1) (read_unsigned s (a.at + 1))
unfolding begun
begun-here c = rw (lt-leb _ _ c.if-column-at.false, lt-leb _ _ c.if-column-e.false)

pub returns-then-column-at : goal.returns-then-column-at
unfolding begun
returns-then-column-at c = rw (le-leb _ _ c.if-column-at.true)

pub returns-then-column-e : goal.returns-then-column-e
unfolding begun
returns-then-column-e c = rw (lt-leb _ _ c.if-column-at.false, le-leb _ _ c.if-column-e.true)

pub returns-in_default : goal.returns-in_default
unfolding counted
returns-in_default c = let told = c.in_default.is in
    let k = c in
    rw (begun-here (goal.at.returns-in_default c).Else-column-e, ← k.read_unsigned-k.ensures, told) (ap Bad (c.why_read.ensures ∙ ap why_read told))

pub returns-then-c-gt-MAX_COUNT : goal.returns-then-c-gt-MAX_COUNT
unfolding counted
returns-then-c-gt-MAX_COUNT c = let k = c in
    rw (begun-here (goal.at.returns-then-c-gt-MAX_COUNT c).Else-column-e, ← k.read_unsigned-k.ensures, c.in-Number.is, lt-ltb _ _ c.if-c-gt-MAX_COUNT.true)

pub returns : goal.returns
unfolding counted
returns c = let k = c in
    rw (begun-here (goal.at.returns c).Else-column-e, ← k.read_unsigned-k.ensures, c.in-Number.is, le-ltb _ _ c.if-c-gt-MAX_COUNT.false)
