-- `seeker::seek`: what is sought lies in the span that is left.
use Rattle.std.proofs.Common.{◌-◌}
use Rattle.seeker.proofs.Seeking.{Seeking}
use Rattle.seeker.proofs.seek.Given as goal

abbrev pub invariant-loop-t : goal.invariant-loop-t
invariant-loop-t l = Seeking l.initial.rows l.fn.s l.initial.clock l.t

abbrev pub decreases-loop-t : goal.decreases-loop-t
decreases-loop-t l = l.t.hi - l.t.lo
