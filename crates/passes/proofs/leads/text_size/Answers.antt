-- `text_size` meets its contract: a size at the brim, or the sum.
use borrow.Author.Tests.{lt-ltb, le-ltb}
use Rattle.parts.specs.Brim.{brim}
use Rattle.passes.specs.Forms.{text_size}
use Rattle.passes.proofs.leads.text_size.Goals as goal

pub returns-then-texts : goal.returns-then-texts
unfolding text_size
returns-then-texts c = rw (le-ltb _ brim c.if-texts.true)

pub returns-then-units : goal.returns-then-units
unfolding text_size
returns-then-units c = rw (lt-ltb _ brim c.if-texts.false, le-ltb _ brim c.if-units.true)

pub returns : goal.returns
unfolding text_size
returns c = rw (lt-ltb _ brim c.if-texts.false, lt-ltb _ brim c.if-units.false, ← c.size_unsigned-head.ensures.0)
