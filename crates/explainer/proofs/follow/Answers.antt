-- `explainer::follow` meets its contract: each turn is a law of following.
use native.Mathlib.Omega.{arith}
use mathlib.Core.Path.{refl, sym, ◌∙◌}
use Rattle.explainer.proofs.Turns.{starts, end_fits, found-lines, few-lines, onward-turn, end-less, over-found, tell-low, not-refused, own-fits, drawn-follows, drawn-less}
use Rattle.explainer.proofs.follow.Goals as goal

pub loop-part-init : goal.loop-part-init
loop-part-init c = let a = c.args in
    (rw c.start-q.ensures (starts a.form a.update.now a.n a.w.now a.sheet.now c.requires.0 c.requires.1 c.requires.2), refl, refl)

pub returns-then-is_found : goal.returns-then-is_found
returns-then-is_found c = let a = c.args in
    let e = sym c.is_ended.ensures ∙ c.if-is_ended.true in (
      found-lines a.form a.update.now _ c.loop-part.w c.loop-part.sheet c.loop-part.q c.loop-part.ahead c.loop-part.own c.loop-part.invariant.0 e (sym c.is_found.ensures ∙ c.if-is_found.true),
      few-lines a.form a.update.now _ c.loop-part.w c.loop-part.sheet c.loop-part.q c.loop-part.ahead c.loop-part.own c.loop-part.invariant.0 e,
    )

pub ahead_of-ahead-requires : goal.ahead_of-ahead-requires
ahead_of-ahead-requires c = sym c.is_found.ensures ∙ c.if-is_found.false

pub onward-q-requires : goal.onward-q-requires
onward-q-requires c = let a = c.args in
    let e = sym c.is_ended.ensures ∙ c.if-is_ended.true in
    end_fits a.form a.update.now _ c.loop-part.w c.loop-part.sheet c.loop-part.q c.loop-part.ahead c.loop-part.own c.loop-part.invariant.0 e

pub loop-part-smaller-then-is_ended : goal.loop-part-smaller-then-is_ended
loop-part-smaller-then-is_ended c = let a = c.args in
    let e = sym c.is_ended.ensures ∙ c.if-is_ended.true in
    rw c.onward-q.ensures (end-less a.form a.update.now _ c.loop-part.w c.loop-part.sheet c.loop-part.q c.loop-part.ahead c.loop-part.own c.loop-part.invariant.0 e)

pub loop-part-preserved-then-is_ended : goal.loop-part-preserved-then-is_ended
loop-part-preserved-then-is_ended c = let a = c.args in
    let e = sym c.is_ended.ensures ∙ c.if-is_ended.true in
    (rw (c.onward-q.ensures, c.ahead_of-ahead.ensures) (onward-turn a.form a.update.now _ c.loop-part.w c.loop-part.sheet c.loop-part.q c.loop-part.ahead c.loop-part.own c.loop-part.invariant.0 e (sym c.is_found.ensures ∙ c.if-is_found.false)), c.loop-part.invariant.1, c.loop-part.invariant.2)

pub returns-then-is_over : goal.returns-then-is_over
returns-then-is_over c = let a = c.args in
    let e = sym c.is_ended.ensures ∙ c.if-is_ended.false in
    (over-found a.form a.update.now _ c.loop-part.w c.loop-part.sheet c.loop-part.q c.loop-part.ahead c.loop-part.own c.loop-part.invariant.0 e (sym c.is_over.ensures ∙ c.if-is_over.true), omega arith)

pub place-i-requires : goal.place-i-requires
place-i-requires c = c.loop-part.invariant.0.size

pub tell-requires : goal.tell-requires
tell-requires c = let a = c.args in
    let e = sym c.is_ended.ensures ∙ c.if-is_ended.false in
    let o = sym c.is_over.ensures ∙ c.if-is_over.false in
    (c.loop-part.invariant.0.small, c.loop-part.invariant.1, tell-low a.form a.update.now _ c.loop-part.w c.loop-part.sheet c.loop-part.q c.loop-part.ahead c.loop-part.own c.loop-part.invariant.0 e o _ _ c.place-i.ensures)

pub returns-in_default : goal.returns-in_default
returns-in_default c = let a = c.args in
    let e = sym c.is_ended.ensures ∙ c.if-is_ended.false in
    let o = sym c.is_over.ensures ∙ c.if-is_over.false in
    absurd (not-refused a.form a.update.now _ c.loop-part.w c.loop-part.sheet c.loop-part.q c.loop-part.ahead c.loop-part.own c.loop-part.invariant.0 e o _ _ _ _ c.place-i.ensures _ c.tell.ensures.0 c.in_default.is)

pub overflow_add-own : goal.overflow_add-own
overflow_add-own c = let a = c.args in
    let e = sym c.is_ended.ensures ∙ c.if-is_ended.false in
    let o = sym c.is_over.ensures ∙ c.if-is_over.false in
    let h = own-fits a.form a.update.now _ c.loop-part.w c.loop-part.sheet c.loop-part.q c.loop-part.ahead c.loop-part.own c.loop-part.invariant.0 e o _ _ _ _ c.place-i.ensures _ c.tell.ensures.0 _ _ _ c.in-Some.is in
    omega (arith, h)

pub loop-part-smaller : goal.loop-part-smaller
loop-part-smaller c = let a = c.args in
    let e = sym c.is_ended.ensures ∙ c.if-is_ended.false in
    let o = sym c.is_over.ensures ∙ c.if-is_over.false in
    rw c.after-q.ensures (drawn-less a.form a.update.now _ c.loop-part.w c.loop-part.sheet c.loop-part.q c.loop-part.ahead c.loop-part.own c.loop-part.invariant.0 e o _ _ _ _ c.place-i.ensures _ c.tell.ensures.0 _ _ _ c.in-Some.is)

pub loop-part-preserved : goal.loop-part-preserved
loop-part-preserved c = let a = c.args in
    let e = sym c.is_ended.ensures ∙ c.if-is_ended.false in
    let o = sym c.is_over.ensures ∙ c.if-is_over.false in
    (rw c.after-q.ensures (drawn-follows a.form a.update.now _ c.loop-part.w c.loop-part.sheet c.loop-part.q c.loop-part.ahead c.loop-part.own c.loop-part.invariant.0 e o _ _ _ _ c.place-i.ensures _ c.tell.ensures.0 _ _ _ c.in-Some.is), c.tell.ensures.1, c.tell.auto.w ∙ c.loop-part.invariant.2)
