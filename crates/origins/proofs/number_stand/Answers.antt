-- `origins::number_stand` meets its contract: the column's words.
use mathlib.Core.Path.{refl, ◌∙◌}
use Rattle.cells.specs.Cells.{cell, numbers_in}
use Rattle.cells.proofs.Numbers.{first_cell}
use Rattle.origins.specs.Origins.{number_stand}
use Rattle.origins.proofs.number_stand.Goals as goal

pub returns : goal.returns
unfolding number_stand numbers_in cell
returns c = let b = c in
    c.in_run.ensures ∙ rw (c.number_times-n.ensures, c.upto.ensures, first_cell b.args.w.now b.args.k) refl
