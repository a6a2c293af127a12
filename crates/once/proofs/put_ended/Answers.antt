-- `once::put_ended` meets its contract: nothing, or the run that ends.
use mathlib.Core.Path.{sym, ap, ◌∙◌}
use native.Mathlib.Omega.{arith}
use lib.ListN.{length}
use Rattle.once.specs.Once.{went_to, out_at}
use Rattle.once.proofs.Laws.{went-none, out_none, ended-none, ended_some, ends-count}
use Rattle.once.proofs.put_ended.Goals as goal

pub returns-then-not-is_ended : goal.returns-then-not-is_ended
returns-then-not-is_ended c = let a = c.args in
    let e = ended-none a.key a.count a.k a.column (sym c.is_ended.ensures ∙ c.if-not-is_ended.true) in
    (sym (ap (went_to (length a.out.now) a.at) e ∙ went-none (length a.out.now) a.at c.requires.1), sym (ap (out_at a.out.now a.at) e ∙ out_none a.out.now a.at))

pub overflow_sub-n : goal.overflow_sub-n
overflow_sub-n c = let a = c.args in
    omega (arith, ends-count a.key a.count a.k (sym c.is_ended.ensures ∙ c.if-not-is_ended.false))

pub returns : goal.returns
returns c = let a = c.args in
    rw (ended_some a.key a.count a.k a.column (sym c.is_ended.ensures ∙ c.if-not-is_ended.false)) c.put_within.ensures
