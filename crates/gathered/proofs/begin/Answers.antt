-- `gathered::begin` meets its contract: form 1 stands at its first byte, any other is opened; then the section count.
use mathlib.Core.Path.{sym, ap, ◌∙◌}
use mathlib.Core.List.{[]}
use lib.ListN.{set}
use Rattle.opening.specs.Opening.{opened_in}
use Rattle.cells.proofs.States.{at_moved, small_at}
use Rattle.decoder.specs.Update.{rest_places}
use Rattle.update.specs.Steps.{begins}
use Rattle.update.proofs.Laws.{starts-line, unopened, starts-columned}
use Rattle.gathered.specs.Gathered.{Begins}
use Rattle.gathered.proofs.Heads.{begun-at}
use Rattle.gathered.proofs.begin.Goals as goal

pub read_var-requires : goal.read_var-requires
read_var-requires c = small_at c.args.w.now c.requires.0 0

pub returns-then-form-eq1 : goal.returns-then-form-eq1
returns-then-form-eq1 c = let a = c.args in
    let u = a.update.now in
    let w = set a.w.now 63 0 in
    let v = c.read_var.new.w in
    (c.read_var.ensures.0, begun-at a.form u w v c.read_var.result c.read_var.ensures.0 c.read_var.ensures.1 (λ y h. starts-line a.form u w v y c.if-form-eq1.true (at_moved a.w.now c.requires.0 0) h))

pub open-requires : goal.open-requires
open-requires c = let b = c in
    (b.requires.0, b.requires.1 c.if-form-eq1.false)

pub returns-in_err-open : goal.returns-in_err-open
unfolding Begins begins rest_places
returns-in_err-open c = rw c.from_residual.ensures (let a = c.args in
    let v = c.open.new.w in
    (c.open.ensures.0, (unopened a.form a.update.now v c.if-form-eq1.false c.open.ensures.0 (ap (opened_in v) (sym c.in_err-open.was) ∙ c.open.ensures.1)).told []))

pub returns : goal.returns
returns c = let a = c.args in
    let u = a.update.now in
    let w = c.open.new.w in
    let v = c.read_var-2.new.w in
    let opened = ap (opened_in w) (sym c.in_ok-open.was) ∙ c.open.ensures.1 in
    (c.read_var-2.ensures.0, begun-at a.form u w v c.read_var-2.result c.read_var-2.ensures.0 c.read_var-2.ensures.1 (λ y h. starts-columned a.form u w c.if-form-eq1.false _ v y opened h))
