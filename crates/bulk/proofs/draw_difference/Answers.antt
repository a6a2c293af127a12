-- `bulk::draw_difference` meets its contract: each return is an arm of `drawn`, by the tests that led there.
use borrow.Author.Tests.{lt-ltb, le-ltb}
use Rattle.columns.specs.Difference.{drawn}
use Rattle.bulk.proofs.draw_difference.Goals as goal

pub returns-then-sum-lt2147483648 : goal.returns-then-sum-lt2147483648
unfolding drawn
returns-then-sum-lt2147483648 c = rw (lt-ltb _ _ c.if-sum-lt2147483648.true)

pub returns-then-v-gt-MAX_CLOCK : goal.returns-then-v-gt-MAX_CLOCK
unfolding drawn
returns-then-v-gt-MAX_CLOCK c = rw (le-ltb _ _ c.if-sum-lt2147483648.false, lt-ltb _ _ c.if-v-gt-MAX_CLOCK.true)

pub returns : goal.returns
unfolding drawn
returns c = rw (le-ltb _ _ c.if-sum-lt2147483648.false, le-ltb _ _ c.if-v-gt-MAX_CLOCK.false)
