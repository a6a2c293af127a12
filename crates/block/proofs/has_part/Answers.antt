-- `block::has_part` meets its contract: binary, text, format or any.
use borrow.Author.Tests.{ne_eqb}
use Rattle.block.specs.KindsInner.{has_part}
use Rattle.block.proofs.has_part.Goals as goal

pub returns-in-4 : goal.returns-in-4
unfolding has_part
returns-in-4 c = rw c.in-4.is

pub returns-in-5 : goal.returns-in-5
unfolding has_part
returns-in-5 c = rw c.in-5.is

pub returns-in-6 : goal.returns-in-6
unfolding has_part
returns-in-6 c = rw c.in-6.is

pub returns-in-8 : goal.returns-in-8
unfolding has_part
returns-in-8 c = rw c.in-8.is

pub returns-in_default : goal.returns-in_default
unfolding has_part
returns-in_default c = rw (ne_eqb _ 4 c.in_default.in_default-own.rest.0.0.0.1, ne_eqb _ 5 c.in_default.in_default-own.rest.0.0.1, ne_eqb _ 6 c.in_default.in_default-own.rest.0.1, ne_eqb _ 8 c.in_default.in_default-own.rest.1)
