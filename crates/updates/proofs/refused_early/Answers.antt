-- `updates::refused_early` meets its contract: an unknown form, then a length over the limit.
use borrow.Author.Tests.{lt-ltb, le-ltb, eq-eqb, ne_eqb}
use Rattle.updates.proofs.Laws.{unknown-form, known-first, known-second, over-length, not-early}
use Rattle.updates.proofs.refused_early.Goals.{then-form-ne1+else-form-ne2, else-form-ne1}
use Rattle.updates.proofs.refused_early.Goals as goal

pub returns-then-form-ne2 : goal.returns-then-form-ne2
returns-then-form-ne2 c = unknown-form _ _ (ne_eqb _ 1 c.if-form-ne1.true) (ne_eqb _ 2 c.if-form-ne2.true)

pub returns-then-update-gt-MAX_UPDATE : goal.returns-then-update-gt-MAX_UPDATE
returns-then-update-gt-MAX_UPDATE c =
    over-length _ _ (elim c.if-form-ne1.branch [ then-form-ne1+else-form-ne2 w ↦ known-second _ (ne_eqb _ 1 w.if-form-ne1.true) (eq-eqb _ 2 w.if-form-ne2.false) | else-form-ne1 w ↦ known-first _ (eq-eqb _ 1 w.if-form-ne1.false) ])
    (lt-ltb _ _ c.if-update-gt-MAX_UPDATE.true)

pub returns : goal.returns
returns c =
    not-early _ _ (elim c.if-form-ne1.branch [ then-form-ne1+else-form-ne2 w ↦ known-second _ (ne_eqb _ 1 w.if-form-ne1.true) (eq-eqb _ 2 w.if-form-ne2.false) | else-form-ne1 w ↦ known-first _ (eq-eqb _ 1 w.if-form-ne1.false) ])
    (le-ltb _ _ c.if-update-gt-MAX_UPDATE.false)
