-- `opening::open` meets its contract. The loop's invariant: so many columns are cut, and from here on the opening comes to what it comes to; the first, of keys,
-- has its length at byte 1.
use mathlib.Core.Path.{◌≡◌, refl, sym, ap, ◌∙◌, subst}
use native.Mathlib.Omega.{arith}
use lib.ListN.{set, length-set}
use Rattle.numbers.specs.declared.Read.TheVariants.{Refused}
use Rattle.numbers.specs.NumberInner.{why_read}
use Rattle.string.proofs.Texts.{read-ends}
use Rattle.cells.proofs.States.{small_at, small-unkeyed}
use Rattle.opening.proofs.Opening.{Cutting, cutting-empty, cutting-none, cutting-stops, cutting-goes, cutting-over, open-refused, column-refused, column-short, column-there, empty-key}
use Rattle.opening.proofs.open.Goals as goal

pub returns-then-update-eq0 : goal.returns-then-update-eq0
returns-then-update-eq0 c = let b = c in
    let a = b.args in
    open-refused a.update.now a.w.now _ _ _ (cutting-empty a.update.now c.if-update-eq0.true) c.refuse.ensures

pub loop-k-init : goal.loop-k-init
loop-k-init c = let b = c in
    (b.requires.0, omega arith, cutting-none b.args.update.now b.args.w.now c.if-update-eq0.false, refl, λ z. refl)

pub returns-in_default : goal.returns-in_default
returns-in_default c = let a = c.args in
    let told = c.in_default.is in
    open-refused a.update.now c.loop-k.w _ _ _
    (cutting-stops a.update.now c.loop-k.w c.loop-k.k c.loop-k.at c.loop-k.invariant.2 c.loop-k-test.true _
    (column-refused a.update.now c.loop-k.at _ (sym c.read_unsigned-n.ensures ∙ told ∙ ap Refused (sym (c.why_read-why.ensures ∙ ap why_read told)))))
    c.refuse-in_default.ensures

pub overflow_sub-left : goal.overflow_sub-left
overflow_sub-left c = omega (arith, read-ends c.args.update.now c.loop-k.at c.in-Number.size c.in-Number.from (sym c.read_unsigned-n.ensures ∙ c.in-Number.is))

pub returns-then-left-size : goal.returns-then-left-size
returns-then-left-size c = let a = c.args in
    open-refused a.update.now c.loop-k.w _ _ _
    (cutting-stops a.update.now c.loop-k.w c.loop-k.k c.loop-k.at c.loop-k.invariant.2 c.loop-k-test.true _
    (column-short a.update.now c.loop-k.at c.in-Number.size c.in-Number.from (sym c.read_unsigned-n.ensures ∙ c.in-Number.is) c.if-left-size.true))
    c.refuse-then-left-size.ensures

pub overflow_add-to : goal.overflow_add-to
overflow_add-to c = omega (arith, read-ends c.args.update.now c.loop-k.at c.in-Number.size c.in-Number.from (sym c.read_unsigned-n.ensures ∙ c.in-Number.is))

pub loop-k-smaller : goal.loop-k-smaller
loop-k-smaller c = omega arith

pub loop-k-preserved : goal.loop-k-preserved
loop-k-preserved c = let a = c.args in
    let p = c.put_column.ensures in (
      p.small,
      omega arith,
      cutting-goes a.update.now c.loop-k.w c.loop-k.k c.loop-k.at c.loop-k.invariant.2 c.loop-k-test.true _ (record { place = c.in-Number.from; bytes = record { 0 = c.in-Number.size } }) _
          (column-there a.update.now c.loop-k.at c.in-Number.size c.in-Number.from (sym c.read_unsigned-n.ensures ∙ c.in-Number.is) c.if-left-size.false) p,
      c.put_column.auto.w ∙ c.loop-k.invariant.3,
      λ z. absurd (omega arith),
    )

pub put_column-requires : goal.put_column-requires
put_column-requires c = let b = c in (
  c.loop-k.invariant.0,
  omega arith,
  λ z short. let none = empty-key b.args.update.now c.loop-k.at c.in-Number.size c.in-Number.from (c.loop-k.invariant.4 z) (sym c.read_unsigned-n.ensures ∙ c.in-Number.is) (b.requires.1 (omega (arith, short, c.loop-k.invariant.3))) in omega (arith, none),
)

pub bounds-w-67 : goal.bounds-w-67
bounds-w-67 c = simp length-set (omega arith)

pub open_text-requires : goal.open_text-requires
open_text-requires c = small-unkeyed (set c.loop-k.w 63 c.loop-k.at) (small_at c.loop-k.w c.loop-k.invariant.0 c.loop-k.at)

pub returns : goal.returns
returns c = let a = c.args in
    let nine : c.loop-k.k ≡ 9 = omega (arith, c.loop-k-test.false, c.loop-k.invariant.1) in
    let o = c.open_text.ensures in
    (o.0, o.1 ∙ cutting-over a.update.now c.loop-k.w c.loop-k.at (subst (λ k. Cutting a.update.now c.loop-k.w k c.loop-k.at) nine c.loop-k.invariant.2) c.loop-k.invariant.0)
