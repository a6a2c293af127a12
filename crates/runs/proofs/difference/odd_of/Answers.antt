-- `difference::odd_of` meets its contract: a test of n.
use native.Mathlib.Omega.{arith}
use borrow.Author.Tests.{eq-eqb, ne_eqb}
use Rattle.runs.specs.Difference.{odd}
use Rattle.runs.proofs.difference.odd_of.Goals as goal

pub returns-then-n-eq0 : goal.returns-then-n-eq0
unfolding odd
returns-then-n-eq0 c = (rw (eq-eqb _ 0 c.if-n-eq0.true), omega arith)

pub returns : goal.returns
unfolding odd
returns c = (rw (ne_eqb _ 0 c.if-n-eq0.false), omega arith)
