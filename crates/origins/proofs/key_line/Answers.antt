-- `origins::key_line` meets its contract: the key column's words.
use mathlib.Core.Path.{refl}
use Rattle.cells.specs.Cells.{cell, differences_in, state_in}
use Rattle.origins.specs.Origins.{key_line}
use Rattle.origins.proofs.key_line.Goals as goal

pub returns : goal.returns
unfolding key_line state_in differences_in cell
returns c = rw (c.difference_stand-stand.ensures, c.rising-rise.ensures) refl
