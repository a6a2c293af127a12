-- `bulk::draw_number` meets its contract: each return is an arm of `drawn`, by the test that led there.
use borrow.Author.Tests.{lt-ltb, le-ltb}
use Rattle.columns.specs.Number.{drawn}
use Rattle.bulk.proofs.draw_number.Goals as goal

pub returns-then-last-gt-MAX_VALUE : goal.returns-then-last-gt-MAX_VALUE
unfolding drawn
returns-then-last-gt-MAX_VALUE c = rw (lt-ltb _ _ c.if-last-gt-MAX_VALUE.true)

pub returns : goal.returns
unfolding drawn
returns c = rw (le-ltb _ _ c.if-last-gt-MAX_VALUE.false)
