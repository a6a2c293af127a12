-- `chaining::put_chain` meets its contract: a slot that has no words, or its two.
use native.Mathlib.Omega.{arith}
use Rattle.chaining.proofs.Ways.{put-out, put_in}
use Rattle.chaining.proofs.put_chain.Goals as goal

pub returns-then-chains-p : goal.returns-then-chains-p
returns-then-chains-p c = put-out _ _ _ c.if-chains-p.true

pub returns : goal.returns
returns c = put_in _ _ _ (omega arith)
