-- `once::is_storable` meets its contract: column by column.
use mathlib.Core.Path.{sym, ◌∙◌}
use native.Mathlib.Omega.{arith}
use Rattle.runs.specs.Runs.{coding, fits_less_two, fits_less_one}
use Rattle.once.proofs.Laws.{ends-count}
use Rattle.once.proofs.is_storable.Goals as goal

pub overflow_sub-n : goal.overflow_sub-n
overflow_sub-n c = let a = c.args in
    omega (arith, ends-count a.key a.count a.k (sym c.is_ended.ensures ∙ c.if-not-is_ended.false))

pub returns-in-Number : goal.returns-in-Number
unfolding coding fits_less_two fits_less_one
returns-in-Number c = rw (sym c.is_ended.ensures ∙ c.if-not-is_ended.false, c.in-Number.is)

pub returns-in-Difference : goal.returns-in-Difference
unfolding coding fits_less_two fits_less_one
returns-in-Difference c = rw (sym c.is_ended.ensures ∙ c.if-not-is_ended.false, c.in-Difference.is)

pub returns-in-Byte : goal.returns-in-Byte
unfolding coding fits_less_two fits_less_one
returns-in-Byte c = rw (sym c.is_ended.ensures ∙ c.if-not-is_ended.false, c.in-Byte.is)
