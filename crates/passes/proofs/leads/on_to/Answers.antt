-- `on_to` meets its contract, test by test.
use borrow.Author.Tests.{lt-ltb, le-ltb}
use Rattle.parts.specs.Brim.{brim}
use Rattle.passes.specs.Forms.{on_to}
use Rattle.passes.proofs.leads.on_to.Goals as goal

pub returns-then-at-ge-BRIM : goal.returns-then-at-ge-BRIM
unfolding on_to
returns-then-at-ge-BRIM c = rw (le-ltb _ brim c.if-at-ge-BRIM.true)

pub returns-then-size : goal.returns-then-size
unfolding on_to
returns-then-size c = rw (lt-ltb _ brim c.if-at-ge-BRIM.false, le-ltb _ brim c.if-size.true)

pub returns : goal.returns
unfolding on_to
returns c = rw (lt-ltb _ brim c.if-at-ge-BRIM.false, lt-ltb _ brim c.if-size.false)
