-- `chaining::numbered` meets its contract: the dependencies that the words say.
use mathlib.Core.Path.{refl, ◌∙◌}
use Rattle.chaining.specs.Chaining.{light_block}
use Rattle.chaining.proofs.numbered.Goals as goal

pub returns : goal.returns
unfolding light_block
returns c = c.numbered.ensures ∙ rw (c.on_word-third.ensures, c.on_word-second.ensures, c.on_word-first.ensures) refl
