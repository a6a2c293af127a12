-- `content::is_given` meets its contract: a binary or a text.
use borrow.Author.Tests.{ne_eqb}
use Rattle.content.specs.Content.{is_given}
use Rattle.content.proofs.is_given.Goals as goal

pub returns-in-4 : goal.returns-in-4
unfolding is_given
returns-in-4 c = rw c.in-4.is

pub returns-in-5 : goal.returns-in-5
unfolding is_given
returns-in-5 c = rw c.in-5.is

pub returns-in_default : goal.returns-in_default
unfolding is_given
returns-in_default c = rw (ne_eqb _ 4 c.in_default.in_default-own.rest.0.1, ne_eqb _ 5 c.in_default.in_default-own.rest.1)
