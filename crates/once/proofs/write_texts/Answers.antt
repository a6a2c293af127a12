-- `once::write_texts` meets its contract: behind the text, the unit lengths so far are judged, and put or known to have no room, and their texts are taken.
use Prim.Native.Nat.{ℕ, ◌≤◌}
use mathlib.Core.Path.{◌≡◌, sym, ap, ◌∙◌}
use mathlib.Core.Bool.{Bool, false}
use native.Mathlib.Omega.{arith}
use lib.ListN.{length}
use Rattle.numbers.specs.Number.{pick}
use Rattle.text.specs.Utf8.{well_formed}
use Rattle.runs.specs.declared.ColumnKind.TheVariants.{Number}
use Rattle.runs.proofs.Slices.{judge-over}
use Rattle.string.specs.String.{text_column, why_texts}
use Rattle.once.proofs.Laws.{refused-by, state, wrote-begin, number-over, number-unfit, number-on, wrote-end}
use Rattle.once.proofs.Texts.{taking-begin, taking-on, taking-over, head-size, head_near, head-whole, head-long, refuse-over, end-why, why-units}
use Rattle.once.proofs.write_texts.Goals as goal
use Rattle.once.proofs.write_texts.Goals.{After-six_or-number-2, At-loop-u}

-- stores keep the length
size : (c : At-loop-u) → length c.loop-u.out ≡ length c.args.out.now
size c =
    let a = c.args in
    c.loop-u.invariant.0.size ∙ head-size a.out.now a.text.now c.put_head-at.result c.put_head-at.new.out c.put_head-at.ensures

-- the number at the end is the writer's refusal
number : (c : After-six_or-number-2) → let a = c.args in c.six_or-number-2.result ≡ why_texts a.text.now a.units.now
number c =
    let a = c.args in
    let over : length a.units.now ≤ c.loop-u.u-index = omega (arith, c.loop-u-test.false) in
    c.six_or-number-2.ensures
    ∙ ap (λ (t : Bool). pick t c.three_or_seven.result 6) c.loop-u.invariant.1.rest
    ∙ ap (λ (n : ℕ). pick (well_formed a.text.now) n 6) c.three_or_seven.ensures
    ∙ end-why a.text.now a.units.now (state Number c.loop-u.at c.loop-u.key c.loop-u.key c.loop-u.count) c.loop-u.t.found (judge-over Number a.units.now c.loop-u.u-index _ c.loop-u.invariant.0.judged-so over) (taking-over a.text.now a.units.now c.loop-u.u-index c.loop-u.t c.loop-u.invariant.1 over)

pub loop-u-init : goal.loop-u-init
loop-u-init c = let a = c.args in
    (wrote-begin Number c.put_head-at.new.out c.put_head-at.result a.units.now (head_near a.out.now a.text.now c.put_head-at.result c.put_head-at.new.out c.put_head-at.ensures), taking-begin a.text.now a.units.now)

pub returns-then-u-gt-MAX_VALUE : goal.returns-then-u-gt-MAX_VALUE
returns-then-u-gt-MAX_VALUE c = let a = c.args in
    let y = number-over c.put_head-at.new.out c.put_head-at.result a.units.now c.loop-u.u-index c.loop-u.at c.loop-u.key c.loop-u.count c.loop-u.out c.loop-u.invariant.0 c.loop-u-test.true c.if-u-gt-MAX_VALUE.true in
    let e = c.six_or-number.ensures ∙ ap (λ (t : Bool). pick t 3 6) c.loop-u.invariant.1.rest in
    let w = refuse-over a.text.now a.units.now (length a.out.now) c.six_or-number.result y e in
    let r = c.refuse.ensures in
    (r.0 ∙ w.0, rw (size (goal.at.returns-then-u-gt-MAX_VALUE c).At-loop-u) at r.1 ∙ w.1)

pub returns-then-not-is_storable : goal.returns-then-not-is_storable
returns-then-not-is_storable c = let a = c.args in
    let y = number-unfit c.put_head-at.new.out c.put_head-at.result a.units.now c.loop-u.u-index c.loop-u.at c.loop-u.key c.loop-u.count c.loop-u.out c.loop-u.invariant.0 c.loop-u-test.true c.if-u-gt-MAX_VALUE.false (sym c.is_storable.ensures ∙ c.if-not-is_storable.true) in
    let e = c.six_or-number-then-not-is_storable.ensures ∙ ap (λ (t : Bool). pick t 3 6) c.loop-u.invariant.1.rest in
    let w = refuse-over a.text.now a.units.now (length a.out.now) c.six_or-number-then-not-is_storable.result y e in
    let r = c.refuse-then-not-is_storable.ensures in
    (r.0 ∙ w.0, rw (size (goal.at.returns-then-not-is_storable c).At-loop-u) at r.1 ∙ w.1)

pub loop-u-preserved : goal.loop-u-preserved
loop-u-preserved c = let a = c.args in
    let p = c.put_ended-at.ensures in
    let t = c.loop-u-test.true in (
      rw (p.0, p.1, c.count_with-count.ensures)
          (number-on c.put_head-at.new.out c.put_head-at.result a.units.now c.loop-u.u-index c.loop-u.at c.loop-u.key c.loop-u.count c.loop-u.out c.loop-u.invariant.0 t c.if-u-gt-MAX_VALUE.false (sym c.is_storable.ensures ∙ c.if-not-is_storable.false)),
      rw c.take_next-t.ensures.0 (taking-on a.text.now a.units.now c.loop-u.u-index c.loop-u.t c.loop-u.invariant.1 t),
    )

pub returns-then-number-ne0 : goal.returns-then-number-ne0
returns-then-number-ne0 c = let a = c.args in
    let n = c in
    let w = refused-by (why_texts a.text.now a.units.now) (length a.out.now) (text_column a.text.now a.units.now) n.six_or-number-2.result (sym (number (goal.at.returns-then-number-ne0 c).After-six_or-number-2)) c.if-number-ne0.true in
    let r = c.refuse-then-number-ne0.ensures in
    (r.0 ∙ w.0, rw (size (goal.at.returns-then-number-ne0 c).At-loop-u) at r.1 ∙ w.1)

pub returns : goal.returns
returns c = let a = c.args in
    let all = text_column a.text.now a.units.now in
    let z = sym (number (goal.at.returns c).After-six_or-number-2) ∙ c.if-number-ne0.false in
    let u = why-units a.text.now a.units.now z in
    let w = wrote-end Number c.put_head-at.new.out c.put_head-at.result a.units.now c.loop-u.u-index c.loop-u.at c.loop-u.key c.loop-u.key c.loop-u.count false c.loop-u.out c.loop-u.invariant.0 all (head-whole a.out.now a.text.now c.put_head-at.result c.put_head-at.new.out c.put_head-at.ensures a.units.now) (head-long a.out.now a.text.now c.put_head-at.result c.put_head-at.new.out c.put_head-at.ensures a.units.now) (omega (arith, c.loop-u-test.false)) in
    let r = c.end.ensures in
    let o = head-size a.out.now a.text.now c.put_head-at.result c.put_head-at.new.out c.put_head-at.ensures in
    (r.0 ∙ w.0 ∙ rw (u, z, o), r.1 ∙ w.1 ∙ rw (u, z, o))
