-- `seeker::number` meets its contract: the row that is found, if it is one of the table.
use Rattle.std.proofs.Common.{◌∙◌}
use borrow.Author.Tests.{lt-ltb, le-ltb}
use Rattle.seeker.proofs.Seeking.{number-there, number-none}
use Rattle.seeker.proofs.number.Goals as goal

pub returns-then-i-rows : goal.returns-then-i-rows
returns-then-i-rows c = c.number_of.ensures
    ∙ rw (c.fetch-b.ensures, c.seek-i.ensures) (number-there c.args.rows.now c.args.s c.args.clock (lt-ltb _ _ (rw c.seek-i.ensures at c.if-i-rows.true)))

pub returns : goal.returns
returns c = c.never.ensures ∙ number-none c.args.rows.now c.args.s c.args.clock (le-ltb _ _ (rw c.seek-i.ensures at c.if-i-rows.false))
