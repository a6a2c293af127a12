-- `measure` meets its contract: the planned rows are measured as tokens onto blank words, and these are blank again.
use Rattle.std.proofs.Common.{◌≡◌, Bool, false, ◌∙◌}
use borrow.Author.Tests.{eq-eqb, ne_eqb}
use Rattle.encoder.specs.Passes.{planned_tokens}
use Rattle.tokens.proofs.Sized.{sized-tidy}
use Rattle.passes.specs.declared.Measured.{Measured}
use Rattle.passes.proofs.Places.{blank-aliased}
use Rattle.passes.proofs.Exits.{measured-line, measured-lanes, as-form, as-two}
use Rattle.passes.proofs.measure.Goals as goal

pub returns-then-form-eq1 : goal.returns-then-form-eq1
returns-then-form-eq1 c = let a = c.args in
    let m = measured-line a.form (planned_tokens a.update.now a.rows.now a.plan.now a.sections) a.sizes.now (eq-eqb a.form 1 c.if-form-eq1.true) in
    (m.0, m.1, c.requires.2)

pub measure_rows-requires : goal.measure_rows-requires
measure_rows-requires c = let a = c.args in
    let ts = planned_tokens a.update.now a.rows.now a.plan.now a.sections in
    (blank-aliased a.update.now a.lanes.now c.requires.2, c.requires.1, as-two a.form ts (ne_eqb a.form 1 c.if-form-eq1.false) c.requires.3)

pub is_crowded-crowded-requires : goal.is_crowded-crowded-requires
is_crowded-crowded-requires c = sized-tidy c.measure_rows.ensures

pub close-requires : goal.close-requires
close-requires c = sized-tidy c.measure_rows.ensures

both : (f g m n : Bool) → f ≡ g → m ≡ n → ◌≡◌ {A = Measured} (record { far = f; crowded = m }) (record { far = g; crowded = n })
both f g m n e h = cc

pub returns : goal.returns
returns c = let a = c.args in
    let ts = planned_tokens a.update.now a.rows.now a.plan.now a.sections in
    let f : _ ≡ false = ne_eqb a.form 1 c.if-form-eq1.false in
    let m = measured-lanes a.form ts f c.requires.2 (as-form a.form ts f (c.measure_rows.ensures 0).1) c.close.new.lanes c.close.ensures.0 a.sizes.now in
    (both _ _ _ _ c.note-far.ensures.0 c.is_crowded-crowded.ensures ∙ m.0, c.note-far.ensures.1 ∙ m.1, c.clear.ensures)
