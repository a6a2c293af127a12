-- `count_ranges` meets its contract: those passed, and those that follow, are all.
use Prim.Native.Nat.{◌+◌, ◌-◌}
use mathlib.Core.Path.{sym, ◌∙◌}
use native.Mathlib.Omega.{arith}
use Rattle.records.proofs.DeleteRows.{siblings-begin, leading-same, leading-other, leading_end}
use Rattle.records.proofs.delete_set.count_ranges.Goals as goal

pub loop-j-init : goal.loop-j-init
loop-j-init c = let a = c.args in
    siblings-begin a.ranges.now a.i (a.n - (a.i + 1)) c.client_at-client.result c.client_at-client.ensures

pub returns-then-client_at-client : goal.returns-then-client_at-client
returns-then-client_at-client c = let a = c.args in
    omega (arith, leading-other a.ranges.now a.n c.loop-j.j (omega arith) c.client_at-client.result (λ e. c.if-client_at-client.true (c.client_at.ensures ∙ e)))

pub loop-j-preserved : goal.loop-j-preserved
loop-j-preserved c = let a = c.args in
    omega (arith, leading-same a.ranges.now a.n c.loop-j.j (omega arith) c.client_at-client.result (sym c.client_at.ensures ∙ c.if-client_at-client.false))

pub returns : goal.returns
returns c = let a = c.args in
    omega (arith, leading_end a.ranges.now a.n c.loop-j.j (omega arith) c.client_at-client.result)
