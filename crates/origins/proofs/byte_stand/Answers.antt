-- `origins::byte_stand` meets its contract: the column's words.
use mathlib.Core.Path.{refl, ◌∙◌}
use borrow.Author.Tests.{eq-eqb, ne_eqb}
use Rattle.cells.specs.Cells.{cell, bytes_in}
use Rattle.cells.proofs.Numbers.{first_cell}
use Rattle.origins.specs.Origins.{byte_stand}
use Rattle.origins.proofs.byte_stand.Goals as goal

pub returns-then-w-b-eq1 : goal.returns-then-w-b-eq1
unfolding byte_stand bytes_in cell
returns-then-w-b-eq1 c = let b = c in
    c.endless.ensures ∙ rw (first_cell b.args.w.now b.args.k, eq-eqb _ 1 c.if-w-b-eq1.true) refl

pub returns : goal.returns
unfolding byte_stand bytes_in cell
returns c = let b = c in
    c.in_run.ensures
    ∙ rw (c.byte_times-n.ensures, c.upto.ensures, first_cell b.args.w.now b.args.k, ne_eqb _ 1 c.if-w-b-eq1.false) refl
