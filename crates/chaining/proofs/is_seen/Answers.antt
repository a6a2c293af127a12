-- `chaining::is_seen` meets its contract: no chain, no first row, or by the next row.
use mathlib.Core.Path.{◌∙◌}
use mathlib.Core.Logic.{inl, inr}
use borrow.Author.Tests.{le-ltb, eq-eqb}
use Rattle.chaining.proofs.Ways.{unseen, unseen-first, seen_next_lem}
use Rattle.chaining.proofs.is_seen.Goals as goal
use Rattle.chaining.proofs.is_seen.Goals.{then-t-ne0, else-t-ne0}

pub returns-then-t-rows : goal.returns-then-t-rows
returns-then-t-rows c = seen_next_lem _ _ c.if-t-rows.true.0 c.if-t-rows.true.1

pub returns-else-t-rows : goal.returns-else-t-rows
returns-else-t-rows c = let a = c.args in
    elim c.if-t-ne0.branch [
      | then-t-ne0 w ↦ elim c.if-t-rows.either [
        | inl h ↦ w.t-4-is ∙ le-ltb a.t.first a.rows h.1 ∙ unseen-first a.t a.rows h.0 h.1
        | inr e ↦ absurd (w.if-t-ne0.true e)
      ]
      | else-t-ne0 w ↦ w.t-4-is ∙ rw (eq-eqb a.t.clear 0 w.if-t-ne0.false) (unseen a.t a.rows w.if-t-ne0.false)
    ]
