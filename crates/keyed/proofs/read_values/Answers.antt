-- `keyed::read_values` meets its contract: they are passed over, and their bytes stand in the row; or why not is in the words.
use mathlib.Core.Path.{sym, ap, ◌∙◌}
use native.Mathlib.Omega.{arith}
use Rattle.grammar.specs.Course.{not}
use Rattle.cells.specs.Cells.{at_in}
use Rattle.cells.proofs.States.{small_at, beside_none, beside-put}
use Rattle.fields.specs.Fields.{part_given}
use Rattle.fields.proofs.Laws.{part_moved}
use Rattle.keyed.proofs.Laws.{values-end, values-read, values-refused}
use Rattle.keyed.proofs.read_values.Goals as goal

pub overflow_sub-size : goal.overflow_sub-size
overflow_sub-size c = let a = c.args in
    omega (arith, values-end a.update.now _ a.n _ _ (sym c.skip_anys.ensures ∙ c.in-At.is))

pub returns-in-At : goal.returns-in-At
unfolding at_in
returns-in-At c = let b = c in
    let a = b.args in
    let w = a.w.now in
    let r = a.r.now in (
      small_at w b.requires.0 c.in-At.end,
      beside-put a.k _ _ r b.requires.1,
      part_moved w b.requires.0 c.in-At.end a.k _ _ r b.requires.1
          ∙ values-read a.form a.update.now w a.blame a.n c.in-At.end (sym c.skip_anys.ensures ∙ c.in-At.is),
    )

pub returns-in-Refused : goal.returns-in-Refused
unfolding at_in part_given
returns-in-Refused c = let a = c.args in
    let f = c.refuse.ensures in (
      f.1,
      beside_none a.k a.r.now,
      ap not f.3 ∙ values-refused a.form a.update.now a.w.now a.blame a.n _ (sym c.skip_anys.ensures ∙ c.in-Refused.is),
    )
