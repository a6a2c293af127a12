-- `origins::plain_line` meets its contract.
use mathlib.Core.Path.{refl}
use Rattle.origins.specs.Origins.{plain_line}
use Rattle.origins.proofs.plain_line.Goals as goal

pub returns : goal.returns
unfolding plain_line
returns c = rw (c.in_line-stand.ensures, c.no_rise-rise.ensures, c.no_part-part.ensures) refl
