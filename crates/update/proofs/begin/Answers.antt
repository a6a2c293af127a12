-- `update::begin` meets its contract: form 1 stands at its first byte, any other is opened; then the section count.
use mathlib.Core.Path.{sym, ap, ◌∙◌}
use Rattle.opening.specs.Opening.{opened_in}
use Rattle.cells.proofs.States.{at_moved, small_at}
use Rattle.update.proofs.Laws.{starts-line, unopened, starts-columned}
use Rattle.update.proofs.begin.Goals as goal

pub read_count-requires : goal.read_count-requires
read_count-requires c = small_at c.args.w.now c.requires.0 0

pub open-requires : goal.open-requires
open-requires c = let b = c in
    (b.requires.0, b.requires.1 c.if-form-eq1.false)

pub returns-then-form-eq1 : goal.returns-then-form-eq1
returns-then-form-eq1 c = let a = c.args in
    starts-line a.form a.update.now _ _ _ c.if-form-eq1.true (at_moved a.w.now c.requires.0 0) c.read_count.ensures

pub returns-in_default : goal.returns-in_default
returns-in_default c = let a = c.args in
    let v = c.open.new.w in
    rw c.why.ensures (unopened a.form a.update.now v c.if-form-eq1.false c.open.ensures.0 (ap (opened_in v) (sym c.in_default.is) ∙ c.open.ensures.1))

pub returns : goal.returns
returns c = let a = c.args in
    let v = c.open.new.w in
    starts-columned a.form a.update.now v c.if-form-eq1.false _ _ _ (ap (opened_in v) (sym c.in-Some.is) ∙ c.open.ensures.1) c.read_count-2.ensures
