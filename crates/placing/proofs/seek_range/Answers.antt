-- `placing::seek_range` meets its contract: what is sought lies in the span that is left.
use mathlib.Core.Bool.{Bool}
use mathlib.Core.Path.{sym, ap, ◌∙◌}
use Prim.Native.Nat.{ℕ, ◌<◌}
use native.Mathlib.Omega.{arith}
use Rattle.ranges.specs.TableInner.{row}
use Rattle.placing.specs.Placing.{is_before}
use Rattle.placing.proofs.Halved.{found-done, turn-found, turn-less, turn_below}
use Rattle.placing.proofs.seek_range.Goals as goal

pub loop-s-smaller : goal.loop-s-smaller
loop-s-smaller c = let s = c.loop-s.s in
    let h : s.lo < s.hi = omega arith in
    rw (c.narrow-s.ensures, c.middle-mid.ensures) (turn-less s h c.is_before-past.result)

pub loop-s-preserved : goal.loop-s-preserved
loop-s-preserved c = let a = c.args in
    let past : ℕ → Bool = λ (i : ℕ). is_before (row a.words.now i) a.id in
    let h : c.loop-s.s.lo < c.loop-s.s.hi = omega arith in
    let mid = c.middle-mid.ensures in (
      rw (c.narrow-s.ensures, mid) (turn-found past c.loop-s.s h c.is_before-past.result (ap past (sym mid) ∙ sym c.is_before-past.ensures)) ∙ c.loop-s.invariant.0,
      rw (c.narrow-s.ensures, mid) (omega (arith, turn_below c.loop-s.s h c.is_before-past.result, c.loop-s.invariant.1)),
    )

pub returns : goal.returns
returns c = let a = c.args in
    sym (found-done (λ (i : ℕ). is_before (row a.words.now i) a.id) c.loop-s.s.lo c.loop-s.s.hi (omega arith)) ∙ c.loop-s.invariant.0
