-- `kept::part_at` meets its contract: only a text or a list is cut.
use mathlib.Core.Path.{refl, sym, ◌∙◌}
use native.Mathlib.Omega.{arith}
use Rattle.kept.specs.Plan.{part_at}
use Rattle.kept.proofs.Sane.{sane-within}
use Rattle.kept.proofs.cursor.part_at.Goals as goal

pub overflow_add-place : goal.overflow_add-place
overflow_add-place c = let s = c in
    let w = sane-within s.args.b s.args.e s.requires in
    omega (arith, w.bytes, w.place)

pub returns-then-is_cut : goal.returns-then-is_cut
unfolding part_at
returns-then-is_cut c = rw (sym c.is_cut.ensures ∙ c.if-is_cut.true) refl

pub returns : goal.returns
unfolding part_at
returns c = rw (sym c.is_cut.ensures ∙ c.if-is_cut.false) refl
