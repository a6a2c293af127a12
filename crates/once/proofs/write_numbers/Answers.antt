-- `once::write_numbers` meets its contract: the numbers so far are judged, and put or known to have no room.
use mathlib.Core.Path.{sym, ◌∙◌}
use mathlib.Core.Bool.{false}
use native.Mathlib.Omega.{arith}
use lib.ListN.{length}
use Rattle.runs.specs.declared.ColumnKind.TheVariants.{Number}
use Rattle.runs.specs.Runs.{column_of, why_of}
use Rattle.once.proofs.Laws.{refused-by, wrote-begin, number-over, number-unfit, number-on, wrote-whole}
use Rattle.once.proofs.write_numbers.Goals as goal

pub loop-v-init : goal.loop-v-init
loop-v-init c = let a = c.args in wrote-begin Number a.out.now 0 a.values.now (omega arith)

pub returns-then-v-gt-MAX_VALUE : goal.returns-then-v-gt-MAX_VALUE
returns-then-v-gt-MAX_VALUE c = let a = c.args in
    let y = number-over a.out.now 0 a.values.now c.loop-v.v-index c.loop-v.at c.loop-v.key c.loop-v.count c.loop-v.out c.loop-v.invariant c.loop-v-test.true c.if-v-gt-MAX_VALUE.true in
    let w = refused-by (why_of Number a.values.now) (length a.out.now) (column_of Number a.values.now) 3 y (λ z. omega arith) in
    let r = c.refuse.ensures in
    (r.0 ∙ w.0, rw c.loop-v.invariant.size at r.1 ∙ w.1)

pub returns-then-not-is_storable : goal.returns-then-not-is_storable
returns-then-not-is_storable c = let a = c.args in
    let y = number-unfit a.out.now 0 a.values.now c.loop-v.v-index c.loop-v.at c.loop-v.key c.loop-v.count c.loop-v.out c.loop-v.invariant c.loop-v-test.true c.if-v-gt-MAX_VALUE.false (sym c.is_storable.ensures ∙ c.if-not-is_storable.true) in
    let w = refused-by (why_of Number a.values.now) (length a.out.now) (column_of Number a.values.now) 3 y (λ z. omega arith) in
    let r = c.refuse-then-not-is_storable.ensures in
    (r.0 ∙ w.0, rw c.loop-v.invariant.size at r.1 ∙ w.1)

pub loop-v-preserved : goal.loop-v-preserved
loop-v-preserved c = let a = c.args in
    let p = c.put_ended-at.ensures in
    rw (p.0, p.1, c.count_with-count.ensures)
    (number-on a.out.now 0 a.values.now c.loop-v.v-index c.loop-v.at c.loop-v.key c.loop-v.count c.loop-v.out c.loop-v.invariant c.loop-v-test.true c.if-v-gt-MAX_VALUE.false (sym c.is_storable.ensures ∙ c.if-not-is_storable.false))

pub returns : goal.returns
returns c = let a = c.args in
    let w = wrote-whole Number a.out.now a.values.now c.loop-v.v-index c.loop-v.at c.loop-v.key c.loop-v.key c.loop-v.count false c.loop-v.out c.loop-v.invariant (omega (arith, c.loop-v-test.false)) in
    let r = c.end.ensures in
    (r.0 ∙ w.0, r.1 ∙ w.1)
