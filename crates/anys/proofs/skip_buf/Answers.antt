-- `anys::skip_buf` meets its contract: a length that is read ends within the bytes.
use mathlib.Core.Path.{sym, ap, ◌∙◌}
use Rattle.numbers.specs.NumberInner.{why_read}
use Rattle.anys.specs.declared.Skipped.TheVariants.{Refused}
use Rattle.anys.specs.Any.{on_count, skip_led}
use Rattle.anys.proofs.Places.{read-ends}
use Rattle.anys.proofs.skip_buf.Goals as goal

pub returns-in_default : goal.returns-in_default
unfolding skip_led on_count
returns-in_default c = let told = c.in_default.is in
    rw (← c.read_unsigned-r.ensures, told) (ap Refused (c.why_read.ensures ∙ ap why_read told))

pub skip_bytes-requires : goal.skip_bytes-requires
skip_bytes-requires c = let a = c.args in
    (read-ends a.update.now a.at _ _ (sym c.read_unsigned-r.ensures ∙ c.in-Number.is)).1

pub returns : goal.returns
unfolding skip_led on_count
returns c = c.skip_bytes.ensures ∙ rw (← c.read_unsigned-r.ensures, c.in-Number.is)
