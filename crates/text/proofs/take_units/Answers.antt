-- `text::take_units` meets its contract: what there is to take from here is what there was to take at the start.
use Prim.Native.Nat.{◌-◌}
use mathlib.Core.Path.{◌≡◌, sym, ap, ◌∙◌}
use native.Mathlib.Omega.{arith}
use Rattle.text.specs.Utf8.{gain, took}
use Rattle.text.proofs.Laws.{legal-start, legal-next, take_done, take-pair, turn-take, end-done, end-past}
use Rattle.text.proofs.Plain.{behind-take}
use Rattle.text.proofs.take_units.Goals as goal

pub loop-i-init : goal.loop-i-init
loop-i-init c = let p = c.plain_to-at.ensures in
    let k = c in (
      p.0,
      omega arith,
      behind-take k.args.s.now k.args.from c.plain_to-at.result k.args.to p.0 (omega arith) k.requires.1 p.2 _ _ (omega arith),
      legal-start,
    )

pub returns-then-left-eq0 : goal.returns-then-left-eq0
returns-then-left-eq0 c = let k = c in
    sym (take_done _ c.loop-i.i _ c.loop-i.st c.loop-i-test.true k.requires.1 _ _ _ c.if-left-eq0.true) ∙ c.loop-i.invariant.2

pub advance-st-requires : goal.advance-st-requires
advance-st-requires c = c.loop-i.invariant.3

pub returns-then-left-g : goal.returns-then-left-g
returns-then-left-g c = let t = c.loop-i-test.true in
    let k = c in
    let e : c.gained-g.result ≡ gain _ = c.gained-g.ensures ∙ ap gain c.advance-st.ensures in
    sym (take-pair _ c.loop-i.i _ c.loop-i.st t k.requires.1 _ _ (c.loop-i.i - k.args.from) c.if-left-eq0.false (rw e at c.if-left-g.true))
    ∙ c.loop-i.invariant.2

pub loop-i-preserved : goal.loop-i-preserved
loop-i-preserved c = let t = c.loop-i-test.true in
    let k = c in
    let e : c.gained-g.result ≡ gain _ = c.gained-g.ensures ∙ ap gain c.advance-st.ensures in (
      omega arith,
      omega arith,
      rw c.advance-st.ensures
          (turn-take k.args.s.now c.loop-i.i k.args.to c.loop-i.st t k.requires.1 _ c.loop-i.left _ _ _ (omega (arith, e)) (omega arith) c.if-left-eq0.false (rw e at c.if-left-g.false)
          ∙ c.loop-i.invariant.2),
      rw c.advance-st.ensures (legal-next c.loop-i.st _ c.loop-i.invariant.3),
    )

pub returns-then-left-eq0-2 : goal.returns-then-left-eq0-2
returns-then-left-eq0-2 c = let k = c in
    let z : k.args.to - k.args.from ≡ c.loop-i.i - k.args.from = omega arith in
    ap took z ∙ sym (end-done k.args.s.now c.loop-i.i k.args.to (omega arith) c.loop-i.st _ _ _ c.if-left-eq0-2.true) ∙ c.loop-i.invariant.2

pub returns : goal.returns
returns c = let k = c in
    sym (end-past k.args.s.now c.loop-i.i k.args.to (omega arith) c.loop-i.st _ _ (c.loop-i.i - k.args.from) c.if-left-eq0-2.false) ∙ c.loop-i.invariant.2
