-- `once::write_differences` meets its contract: the clocks so far are judged, and put or known to have no room, and it is told whether the run's key is far.
use Prim.Native.Nat.{◌≤◌}
use mathlib.Core.Path.{refl, sym, ◌∙◌}
use mathlib.Core.Logic.{inl}
use native.Mathlib.Omega.{arith}
use lib.ListN.{length}
use Rattle.runs.specs.declared.ColumnKind.TheVariants.{Difference}
use Rattle.numbers.specs.Limits.{max_clock}
use Rattle.runs.specs.Runs.{coding, column_of, why_of}
use Rattle.once.proofs.Laws.{refused-by, far-so, wrote-begin, difference-over, difference-unfit, difference-same, difference-new, wrote-whole}
use Rattle.once.proofs.write_differences.Goals as goal
use Rattle.once.proofs.write_differences.Goals.{At-loop-v}

-- the value before is within its limit
within : (c : At-loop-v) → c.loop-v.last ≤ max_clock
unfolding coding
within c = c.loop-v.invariant.0.judged-so.sound.0

pub loop-v-init : goal.loop-v-init
loop-v-init c = let a = c.args in (wrote-begin Difference a.out.now 0 a.values.now (omega arith), inl refl)

pub returns-then-v-gt-MAX_CLOCK : goal.returns-then-v-gt-MAX_CLOCK
returns-then-v-gt-MAX_CLOCK c = let a = c.args in
    let y = difference-over a.out.now a.values.now c.loop-v.v-index c.loop-v.at c.loop-v.last c.loop-v.key c.loop-v.count c.loop-v.far c.loop-v.out c.loop-v.invariant.0 c.loop-v-test.true c.if-v-gt-MAX_CLOCK.true in
    let w = refused-by (why_of Difference a.values.now) (length a.out.now) (column_of Difference a.values.now) 3 y (λ z. omega arith) in
    let r = c.refuse.ensures in
    (r.0 ∙ w.0, rw c.loop-v.invariant.0.size at r.1 ∙ w.1)

pub key_between-k-requires : goal.key_between-k-requires
key_between-k-requires c = (within (goal.at.key_between-k-requires c).At-loop-v, c.if-v-gt-MAX_CLOCK.false)

pub loop-v-preserved-then-k-key : goal.loop-v-preserved-then-k-key
loop-v-preserved-then-k-key c = let a = c.args in
    (difference-same a.out.now a.values.now c.loop-v.v-index c.loop-v.at c.loop-v.last c.loop-v.key c.loop-v.count c.loop-v.far c.loop-v.out c.loop-v.invariant.0 c.loop-v-test.true c.if-v-gt-MAX_CLOCK.false (within (goal.at.loop-v-preserved-then-k-key c).At-loop-v) (sym c.key_between-k.ensures ∙ c.if-k-key.true) c.loop-v.invariant.1, c.loop-v.invariant.1)

pub returns-then-not-is_storable : goal.returns-then-not-is_storable
returns-then-not-is_storable c = let a = c.args in
    let f = rw c.key_between-k.ensures at (sym c.is_storable.ensures ∙ c.if-not-is_storable.true) in
    let y = difference-unfit a.out.now a.values.now c.loop-v.v-index c.loop-v.at c.loop-v.last c.loop-v.key c.loop-v.count c.loop-v.far c.loop-v.out c.loop-v.invariant.0 c.loop-v-test.true c.if-v-gt-MAX_CLOCK.false f in
    let w = refused-by (why_of Difference a.values.now) (length a.out.now) (column_of Difference a.values.now) 3 y (λ z. omega arith) in
    let r = c.refuse-then-not-is_storable.ensures in
    (r.0 ∙ w.0, rw c.loop-v.invariant.0.size at r.1 ∙ w.1)

pub loop-v-preserved : goal.loop-v-preserved
loop-v-preserved c = let a = c.args in
    let q = c.key_between-k.ensures in
    let f = rw q at (sym c.is_storable.ensures ∙ c.if-not-is_storable.false) in
    let p = c.put_ended-at.ensures in
    rw (p.0, p.1, c.far_with-far.ensures, q)
    (difference-new a.out.now a.values.now c.loop-v.v-index c.loop-v.at c.loop-v.last c.loop-v.key c.loop-v.count c.loop-v.far c.loop-v.out c.loop-v.invariant.0 c.loop-v-test.true c.if-v-gt-MAX_CLOCK.false (λ z. c.if-k-key.false (q ∙ z)) f, far-so _ c.loop-v.far)

pub returns : goal.returns
returns c = let a = c.args in
    let w = wrote-whole Difference a.out.now a.values.now c.loop-v.v-index c.loop-v.at c.loop-v.last c.loop-v.key c.loop-v.count c.loop-v.far c.loop-v.out c.loop-v.invariant.0 (omega (arith, c.loop-v-test.false)) in
    let r = c.end.ensures in
    (r.0 ∙ w.0, r.1 ∙ w.1)
