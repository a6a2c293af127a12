-- `fields::draw_text` meets its contract: no number, no text; else its bytes are taken, or why not is in the words.
use native.Mathlib.Omega.{arith}
use Rattle.fields.proofs.Texts.{text-none, text-took, text-refused}
use Rattle.cells.specs.Cells.{cell, NumberDrawn}
use Rattle.string.specs.StringInner.{TookWithin}
use mathlib.Core.Logic.{⊎_elim}
use mathlib.Core.Path.{refl, subst}
use Rattle.fields.proofs.draw_text.Goals as goal

pub returns-in_err-units : goal.returns-in_err-units
returns-in_err-units c = let b = c in
    let a = b.args in
    text-none a.update.now a.w.now _ a.k a.r.now _ c.from_residual.ensures (rw (c.from_residual.ensures, ← c.in_err-units.was) c.draw_units.ensures)

pub overflow_add-next : goal.overflow_add-next
unfolding TookWithin
overflow_add-next c = ⊎_elim (λ l. omega (arith, l)) (λ z. omega (arith, z, c.slice_known-5-1.given 40)) (subst (TookWithin _ _) c.in-Took.is c.take_text.ensures.1)

pub returns-in-Took : goal.returns-in-Took
unfolding cell
returns-in-Took c = let b = c in
    let a = b.args in
    text-took a.update.now a.w.now _ c.in_ok-units.units (subst (NumberDrawn a.update.now 5 a.w.now _) c.in_ok-units.was c.draw_units.ensures)
    a.r.now _ a.k _ _ _ b.requires.1 refl c.in-Took.is c.upto.ensures c.take_text.ensures.0

pub returns-in-Refused : goal.returns-in-Refused
unfolding cell
returns-in-Refused c = let b = c in
    let a = b.args in
    text-refused a.update.now a.w.now _ c.in_ok-units.units (subst (NumberDrawn a.update.now 5 a.w.now _) c.in_ok-units.was c.draw_units.ensures)
    _ a.r.now _ _ a.k _ _ _ refl c.in-Refused.is c.upto.ensures c.take_text.ensures.0 c.refuse.ensures
