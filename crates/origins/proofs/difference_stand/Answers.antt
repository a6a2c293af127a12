-- `origins::difference_stand` meets its contract: the column's words.
use mathlib.Core.Path.{refl, ◌∙◌}
use Rattle.cells.specs.Cells.{cell, differences_in}
use Rattle.cells.proofs.Numbers.{first_cell}
use Rattle.origins.specs.Origins.{difference_stand}
use Rattle.origins.proofs.difference_stand.Goals as goal

pub returns : goal.returns
unfolding difference_stand differences_in cell
returns c = let b = c in
    c.in_run.ensures ∙ rw (c.difference_times-n.ensures, c.upto.ensures, first_cell b.args.w.now b.args.k) refl
