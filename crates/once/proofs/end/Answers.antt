-- `once::end` meets its contract: the refusals in their order, and then the last run.
use mathlib.Core.Path.{sym, ◌∙◌}
use Rattle.once.proofs.Laws.{end-three, end-thirteen, end-ten, end-close}
use Rattle.once.proofs.end.Goals as goal

pub returns-then-not-last_fits : goal.returns-then-not-last_fits
returns-then-not-last_fits c = let a = c.args in
    let l = end-three a.out.now a.w a.far (sym c.last_fits.ensures ∙ c.if-not-last_fits.true) in
    let r = c.refuse.ensures in
    (r.0 ∙ sym l.0, r.1 ∙ sym l.1)

pub returns-then-far : goal.returns-then-far
returns-then-far c = let a = c.args in
    let l = end-thirteen a.out.now a.w a.far (sym c.last_fits.ensures ∙ c.if-not-last_fits.false) c.if-far.true in
    let r = c.refuse-then-far.ensures in
    (r.0 ∙ sym l.0, r.1 ∙ sym l.1)

pub returns-then-out-at : goal.returns-then-out-at
returns-then-out-at c = let a = c.args in
    let l = end-ten a.out.now a.w a.far (sym c.last_fits.ensures ∙ c.if-not-last_fits.false) c.if-far.false c.if-out-at.true in
    let r = c.refuse-then-out-at.ensures in
    (r.0 ∙ sym l.0, r.1 ∙ sym l.1)

pub returns : goal.returns
returns c = let a = c.args in
    let l = end-close a.out.now a.w a.far (sym c.last_fits.ensures ∙ c.if-not-last_fits.false) c.if-far.false c.if-out-at.false in
    let r = c.close.ensures in
    (r.0 ∙ sym l.0, r.1 ∙ sym l.1)
