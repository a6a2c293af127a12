-- `fields::read_var` meets its contract: a number within its limit moves the place in line.
use mathlib.Core.Path.{sym, ap, ◌∙◌}
use Rattle.numbers.specs.NumberInner.{why_read}
use Rattle.cells.specs.Cells.{at_in, state_in}
use Rattle.fields.proofs.Laws.{small-moved, given-moved, given-refused, var-refused, var-over, var-read}
use native.Mathlib.Omega.{arith}
use lib.ListN.{length-set}
use Rattle.fields.proofs.read_var.Goals as goal

pub returns-in_default : goal.returns-in_default
unfolding at_in
returns-in_default c = let b = c in
    let u = b.args.update.now in
    let w = b.args.w.now in
    let told = c.in_default.is in
    let k = c.refuse.ensures in (
      k.1,
      given-refused c.refuse.new.w k.0 (k.3 ∙ c.why_read-why.ensures ∙ ap why_read told)
          ∙ var-refused u (state_in w) (at_in w) b.args.most _ (sym c.read_unsigned-n.ensures ∙ told),
    )

pub returns-then-most-v : goal.returns-then-most-v
unfolding at_in
returns-then-most-v c = let b = c in
    let u = b.args.update.now in
    let w = b.args.w.now in
    let k = c.refuse-then-most-v.ensures in (
      k.1,
      given-refused c.refuse-then-most-v.new.w k.0 k.3 ∙ var-over u (state_in w) (at_in w) b.args.most _ _ (sym c.read_unsigned-n.ensures ∙ c.in-Number.is) c.if-most-v.true,
    )

pub bounds-w-64 : goal.bounds-w-64
bounds-w-64 c = simp length-set (omega arith)

pub returns : goal.returns
unfolding at_in
returns c = let b = c in
    let u = b.args.update.now in
    let w = b.args.w.now in
    let v = c.in-Number.v in
    let e = c.in-Number.e in (
      small-moved w b.requires e (at_in w),
      given-moved w b.requires e (at_in w) v ∙ var-read u (state_in w) (at_in w) b.args.most v e (sym c.read_unsigned-n.ensures ∙ c.in-Number.is) c.if-most-v.false,
    )
