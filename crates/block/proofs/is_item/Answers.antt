-- `block::is_item` meets its contract: what has content.
use borrow.Author.Tests.{ne_eqb}
use Rattle.block.specs.Kinds.{is_item}
use Rattle.block.proofs.is_item.Goals as goal

pub returns-in-3 : goal.returns-in-3
unfolding is_item
returns-in-3 c = rw c.in-3.is

pub returns-in-4 : goal.returns-in-4
unfolding is_item
returns-in-4 c = rw c.in-4.is

pub returns-in-5 : goal.returns-in-5
unfolding is_item
returns-in-5 c = rw c.in-5.is

pub returns-in-6 : goal.returns-in-6
unfolding is_item
returns-in-6 c = rw c.in-6.is

pub returns-in-7 : goal.returns-in-7
unfolding is_item
returns-in-7 c = rw c.in-7.is

pub returns-in-8 : goal.returns-in-8
unfolding is_item
returns-in-8 c = rw c.in-8.is

pub returns-in_default : goal.returns-in_default
unfolding is_item
returns-in_default c = rw (ne_eqb _ 3 c.in_default.in_default-own.rest.0.0.0.0.0.1, ne_eqb _ 4 c.in_default.in_default-own.rest.0.0.0.0.1, ne_eqb _ 5 c.in_default.in_default-own.rest.0.0.0.1, ne_eqb _ 6 c.in_default.in_default-own.rest.0.0.1, ne_eqb _ 7 c.in_default.in_default-own.rest.0.1, ne_eqb _ 8 c.in_default.in_default-own.rest.1)
