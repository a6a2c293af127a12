-- `origins::text_line` meets its contract: the text column's words.
use mathlib.Core.Path.{refl}
use Rattle.cells.specs.Cells.{cell, numbers_in, texts_in, state_in}
use Rattle.origins.specs.Origins.{text_line, text_stand}
use Rattle.origins.proofs.text_line.Goals as goal

pub returns : goal.returns
unfolding text_line text_stand state_in texts_in numbers_in cell
returns c = rw (c.number_stand-stand.ensures, c.no_rise-rise.ensures) refl
