-- `origins::stored_line` meets its contract.
use mathlib.Core.Path.{refl}
use Rattle.origins.specs.Origins.{stored_line}
use Rattle.origins.proofs.stored_line.Goals as goal

pub returns : goal.returns
unfolding stored_line
returns c = rw (c.in_line-stand.ensures, c.no_rise-rise.ensures) refl
