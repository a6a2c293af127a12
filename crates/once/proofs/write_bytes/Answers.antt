-- `once::write_bytes` meets its contract: the bytes so far are judged, and put or known to have no room.
use mathlib.Core.Path.{sym, ◌∙◌}
use mathlib.Core.Bool.{false}
use native.Mathlib.Omega.{arith}
use lib.ListN.{length}
use Rattle.runs.specs.declared.ColumnKind.TheVariants.{Byte}
use Rattle.runs.specs.Runs.{column_of, why_of}
use Rattle.once.proofs.Laws.{refused-by, wrote-begin, byte-unfit, byte-on, wrote-whole}
use Rattle.once.proofs.write_bytes.Goals as goal

pub loop-b-init : goal.loop-b-init
loop-b-init c = let a = c.args in wrote-begin Byte a.out.now 0 a.values.now (omega arith)

pub returns-then-not-is_storable : goal.returns-then-not-is_storable
returns-then-not-is_storable c = let a = c.args in
    let f = (sym c.is_storable.ensures ∙ c.if-not-is_storable.true) in
    let y = byte-unfit a.out.now a.values.now c.loop-b.b-index c.loop-b.at c.loop-b.key c.loop-b.count c.loop-b.out c.loop-b.invariant c.loop-b-test.true (omega (arith, c.type_inv.values c.loop-b.b-index)) f in
    let w = refused-by (why_of Byte a.values.now) (length a.out.now) (column_of Byte a.values.now) 3 y (λ z. omega arith) in
    let r = c.refuse.ensures in
    (r.0 ∙ w.0, rw c.loop-b.invariant.size at r.1 ∙ w.1)

pub loop-b-preserved : goal.loop-b-preserved
loop-b-preserved c = let a = c.args in
    let f = (sym c.is_storable.ensures ∙ c.if-not-is_storable.false) in
    let p = c.put_ended-at.ensures in
    rw (p.0, p.1, c.count_with-count.ensures)
    (byte-on a.out.now a.values.now c.loop-b.b-index c.loop-b.at c.loop-b.key c.loop-b.count c.loop-b.out c.loop-b.invariant c.loop-b-test.true (omega (arith, c.type_inv.values c.loop-b.b-index)) f)

pub returns : goal.returns
returns c = let a = c.args in
    let w = wrote-whole Byte a.out.now a.values.now c.loop-b.b-index c.loop-b.at c.loop-b.key c.loop-b.key c.loop-b.count false c.loop-b.out c.loop-b.invariant (omega (arith, c.loop-b-test.false)) in
    let r = c.end.ensures in
    (r.0 ∙ w.0, r.1 ∙ w.1)
