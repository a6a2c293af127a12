-- `once::put_within` meets its contract: the run where there is room for it, and else nothing.
use Prim.Native.Nat.{◌+◌, ◌≤◌, ◌<◌}
use mathlib.Core.Path.{sym, ◌∙◌}
use native.Mathlib.Omega.{arith}
use lib.ListN.{length}
use Rattle.runs.specs.Runs.{coding}
use Rattle.once.proofs.Laws.{run_short, went-in, went-past, out-in, out-past}
use Rattle.once.proofs.put_within.Goals as goal

pub returns-then-out-at : goal.returns-then-out-at
returns-then-out-at c = let a = c.args in
    let h : length a.out.now < a.at + length ((coding a.column).spell a.k a.n) = omega (arith, c.if-out-at.true) in
    (sym (went-past _ _ _ h), sym (out-past _ _ _ h))

pub put_run-requires : goal.put_run-requires
put_run-requires c = let a = c.args in
    (omega (arith, run_short a.column a.k a.n, c.if-room-ge21.true, c.if-out-at.false), c.requires)

pub returns-then-room-ge21 : goal.returns-then-room-ge21
returns-then-room-ge21 c = let a = c.args in
    let h : a.at + length ((coding a.column).spell a.k a.n) ≤ length a.out.now = omega (arith, run_short a.column a.k a.n, c.if-room-ge21.true, c.if-out-at.false) in
    let p = c.put_run.ensures in
    (p.0 ∙ sym (went-in _ _ _ h), p.1 ∙ sym (out-in _ _ _ h))

pub returns-then-room-size : goal.returns-then-room-size
returns-then-room-size c = let a = c.args in
    let h : length a.out.now < a.at + length ((coding a.column).spell a.k a.n) = omega (arith, c.run_size-size.ensures.0, c.if-room-size.true, c.if-out-at.false) in
    (sym (went-past _ _ _ h), sym (out-past _ _ _ h))

pub returns : goal.returns
returns c = let a = c.args in
    let h : a.at + length ((coding a.column).spell a.k a.n) ≤ length a.out.now = omega (arith, c.run_size-size.ensures.0, c.if-room-size.false, c.if-out-at.false) in
    let p = c.put_run-2.ensures in
    (p.0 ∙ sym (went-in _ _ _ h), p.1 ∙ sym (out-in _ _ _ h))
