-- `origins::number_line` meets its contract.
use mathlib.Core.Path.{refl}
use Rattle.origins.specs.Origins.{number_line}
use Rattle.origins.proofs.number_line.Goals as goal

pub returns : goal.returns
unfolding number_line
returns c = rw (c.stand_in-stand.ensures, c.rise_of-rise.ensures, c.no_part-part.ensures) refl
