-- `copy` meets its contract: after i turns the first i bytes stand.
use Rattle.std.proofs.Common.{◌≡◌, ◌∙◌, ap, arith, length, take, take_all}
use lib.Seq.{sets, length-sets}
use Rattle.tokens.proofs.Parts.{copy-on}
use Rattle.tokens.proofs.line.copy.Goals as goal
use Rattle.tokens.proofs.line.copy.Goals.{At-loop-i}

-- stores keep the length
size : (c : At-loop-i) → length c.loop-i.out ≡ length c.args.out.now
size c = let a = c.args in ap length c.loop-i.invariant ∙ length-sets a.out.now a.at (take c.loop-i.i a.bytes.now)

pub bounds-out-at : goal.bounds-out-at
bounds-out-at c = omega (arith, size (goal.at.bounds-out-at c).At-loop-i, c.requires)

pub loop-i-preserved : goal.loop-i-preserved
loop-i-preserved c = let a = c.args in
    rw c.loop-i.invariant (copy-on a.out.now a.at a.bytes.now c.loop-i.i (omega arith))

pub returns : goal.returns
returns c = let a = c.args in
    c.loop-i.invariant ∙ ap (sets a.out.now a.at) (take_all c.loop-i.i a.bytes.now (omega arith))
