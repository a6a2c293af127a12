-- `is_open` meets its contract.
use borrow.Author.Tests.{lt-ltb, le-ltb}
use Rattle.parts.specs.Brim.{brim}
use Rattle.tokens.proofs.lanes.is_open.Goals as goal

pub returns-then-at-ge-BRIM : goal.returns-then-at-ge-BRIM
returns-then-at-ge-BRIM c = rw (le-ltb c.args.at brim c.if-at-ge-BRIM.true)

pub returns : goal.returns
returns c = rw (lt-ltb c.args.at brim c.if-at-ge-BRIM.false)
