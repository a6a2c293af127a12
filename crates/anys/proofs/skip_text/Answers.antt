-- `anys::skip_text` meets its contract: length, bytes, and whether they are UTF-8.
use mathlib.Core.Path.{sym, ap, ◌∙◌}
use Rattle.numbers.specs.NumberInner.{why_read}
use Rattle.anys.specs.declared.Skipped.TheVariants.{Refused}
use Rattle.anys.specs.Any.{on_count, then_at, text_from, text_at}
use Rattle.anys.proofs.Places.{read-ends, bytes-span}
use Rattle.anys.proofs.skip_text.Goals as goal

pub returns-in_default : goal.returns-in_default
unfolding text_at on_count
returns-in_default c = let told = c.in_default.is in
    rw (← c.read_unsigned-r.ensures, told) (ap Refused (c.why_read.ensures ∙ ap why_read told))

pub skip_bytes-b-requires : goal.skip_bytes-b-requires
skip_bytes-b-requires c = let a = c.args in
    (read-ends a.update.now a.at _ _ (sym c.read_unsigned-r.ensures ∙ c.in-Number.is)).1

pub returns-in_default-b : goal.returns-in_default-b
unfolding text_at text_from on_count then_at
returns-in_default-b c = rw (← c.read_unsigned-r.ensures, c.in-Number.is, ← c.skip_bytes-b.ensures, c.in_default-b.is)

pub check-requires : goal.check-requires
check-requires c = let a = c.args in
    let e = (read-ends a.update.now a.at _ _ (sym c.read_unsigned-r.ensures ∙ c.in-Number.is)).1 in
    bytes-span a.update.now _ _ _ e (sym c.skip_bytes-b.ensures ∙ c.in-At.is)

pub returns-then-check : goal.returns-then-check
unfolding text_at text_from on_count then_at
returns-then-check c = rw (← c.read_unsigned-r.ensures, c.in-Number.is, ← c.skip_bytes-b.ensures, c.in-At.is, ← c.check.ensures, c.if-check.true)

pub returns : goal.returns
unfolding text_at text_from on_count then_at
returns c = rw (← c.read_unsigned-r.ensures, c.in-Number.is, ← c.skip_bytes-b.ensures, c.in-At.is, ← c.check.ensures, c.if-check.false)
