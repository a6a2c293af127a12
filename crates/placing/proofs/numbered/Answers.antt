-- `placing::numbered` meets its contract: the block at its number, with these dependencies.
use mathlib.Core.Path.{refl}
use Rattle.placing.specs.Placing.{numbered_block}
use Rattle.placing.proofs.numbered.Goals as goal

pub returns : goal.returns
unfolding numbered_block
returns c = rw (c.cap-clock.ensures, c.saturating_sub.ensures, c.first_of-first.ensures) refl
