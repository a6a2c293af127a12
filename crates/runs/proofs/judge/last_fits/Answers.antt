-- `judge::last_fits` meets its contract, column by column.
use borrow.Author.Tests.{eq-eqb, ne_eqb}
use Rattle.runs.specs.Writer.{last_fits_in}
use Rattle.runs.specs.Runs.{coding, fits_less_two, fits_less_one}
use Rattle.runs.proofs.judge.last_fits.Goals as goal

pub returns-then-w-eq0 : goal.returns-then-w-eq0
unfolding last_fits_in
returns-then-w-eq0 c = rw (eq-eqb _ 0 c.if-w-eq0.true)

pub returns-in-Number : goal.returns-in-Number
unfolding last_fits_in coding fits_less_two fits_less_one
returns-in-Number c = rw (ne_eqb _ 0 c.if-w-eq0.false, c.in-Number.is)

pub returns-in-Difference : goal.returns-in-Difference
unfolding last_fits_in coding fits_less_two fits_less_one
returns-in-Difference c = rw (ne_eqb _ 0 c.if-w-eq0.false, c.in-Difference.is)

pub returns-in-Byte : goal.returns-in-Byte
unfolding last_fits_in coding fits_less_two fits_less_one
returns-in-Byte c = rw (ne_eqb _ 0 c.if-w-eq0.false, c.in-Byte.is)
