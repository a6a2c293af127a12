-- `block::is_named` meets its contract: an XML element or an XML hook.
use borrow.Author.Tests.{ne_eqb}
use Rattle.block.specs.Kinds.{is_named}
use Rattle.block.proofs.is_named.Goals as goal

pub returns-in-3 : goal.returns-in-3
unfolding is_named
returns-in-3 c = rw c.in-3.is

pub returns-in-5 : goal.returns-in-5
unfolding is_named
returns-in-5 c = rw c.in-5.is

pub returns-in_default : goal.returns-in_default
unfolding is_named
returns-in_default c = rw (ne_eqb _ 3 c.in_default.in_default-own.rest.0.1, ne_eqb _ 5 c.in_default.in_default-own.rest.1)
