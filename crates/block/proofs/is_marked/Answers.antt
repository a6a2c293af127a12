-- `block::is_marked` meets its contract: a format, or a type that has a node name.
use borrow.Author.Rules.{rules}
use borrow.Author.Tests.{ne_eqb}
use Rattle.block.specs.KindsInner.{is_marked}
use Rattle.block.proofs.is_marked.Goals as goal

pub is_named-requires : goal.is_named-requires
is_named-requires c = search rules

pub returns-in-6 : goal.returns-in-6
unfolding is_marked
returns-in-6 c = rw c.in-6.is

pub returns-in-7 : goal.returns-in-7
unfolding is_marked
returns-in-7 c = rw (c.in-7.is, c.is_named.ensures)

pub returns-in_default : goal.returns-in_default
unfolding is_marked
returns-in_default c = rw (ne_eqb _ 6 c.in_default.in_default-own.rest.0.1, ne_eqb _ 7 c.in_default.in_default-own.rest.1)
