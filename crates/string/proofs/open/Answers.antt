-- `string::open` meets its contract: each return is an arm of `opened`, by what was read and tested; a number read ends within the bytes.
use Prim.Native.Nat.{◌+◌, ◌≤◌}
use mathlib.Core.Path.{sym, ap, ◌∙◌}
use native.Mathlib.Omega.{arith}
use lib.ListN.{length}
use borrow.Author.Tests.{lt-ltb, le-ltb}
use Rattle.numbers.specs.NumberInner.{why_read}
use Rattle.string.specs.declared.Opened.TheVariants.{At, Not}
use Rattle.string.specs.String.{place_at, opened, open_text}
use Rattle.string.proofs.Texts.{read-ends}
use Rattle.string.proofs.open.Goals as goal
use Rattle.string.proofs.open.Goals.{In-Number}

-- where the text begins
ends : (c : In-Number) → c.in-Number.e ≤ length c.args.column.now
ends c =
    let a = c.args in
    read-ends a.column.now a.at c.in-Number.n c.in-Number.e (sym c.read_unsigned-r.ensures ∙ c.in-Number.is)

pub returns-in_default : goal.returns-in_default
unfolding open_text opened
returns-in_default c = let told = c.in_default.is in
    rw (← c.read_unsigned-r.ensures, told) (ap Not (c.why_read.ensures ∙ ap why_read told))

pub overflow_sub-left : goal.overflow_sub-left
overflow_sub-left c = omega (arith, ends c)

pub returns-then-left-n : goal.returns-then-left-n
unfolding open_text opened
returns-then-left-n c = let r = c in
    rw (← r.read_unsigned-r.ensures, r.in-Number.is, lt-ltb _ _ c.if-left-n.true)

pub check-requires : goal.check-requires
check-requires c = (omega arith, omega (arith, ends (goal.at.check-requires c).In-Number, c.if-left-n.false))

pub returns-then-not-check : goal.returns-then-not-check
unfolding open_text opened
returns-then-not-check c = let r = c in
    rw (← r.read_unsigned-r.ensures, r.in-Number.is, le-ltb _ _ c.if-left-n.false, ← c.check.ensures, c.if-not-check.true)

pub returns : goal.returns
unfolding open_text opened
returns c = let r = c in
    rw (← r.read_unsigned-r.ensures, r.in-Number.is, le-ltb _ _ c.if-left-n.false, ← c.check.ensures, c.if-not-check.false)
    (ap (λ p. At (place_at r.in-Number.e (r.in-Number.e + r.in-Number.n) p)) c.start-units.ensures)
